use Rattle.std.proofs.Common.{◌≤◌, ◌&&◌, max, nat_lt}
use Rattle.std.specs.Prelude.{nat_le}
use Rattle.pg_layout.specs.Terminal.{color_texts}
use Rattle.pg_table.specs.Coloring.{AreColored}
use Rattle.pg_table.proofs.table.colors.color_rows.Given as goal

-- the rows so far
abbrev pub invariant-loop-row : goal.invariant-loop-row
invariant-loop-row g l = record {
  colored : AreColored (λ p. (nat_le l.rows.start p.row && nat_lt p.row l.row) && (nat_le l.columns.start p.col && nat_lt p.col l.columns.end)) (color_texts l.color) l.initial.colors l.colors;
  within : l.row ≤ max l.rows.start l.rows.end;
}
