use Rattle.std.proofs.Common.{◌==◌, ◌≤◌, ◌&&◌, max, nat_lt}
use Rattle.std.specs.Prelude.{nat_le}
use Rattle.pg_layout.specs.Terminal.{color_texts}
use Rattle.pg_table.specs.Coloring.{AreColored}
use Rattle.pg_table.proofs.table.colors.color_row.Given as goal

-- the columns so far
abbrev pub invariant-loop-column : goal.invariant-loop-column
invariant-loop-column g l = record {
  colored : AreColored (λ p. (p.row == l.row) && (nat_le l.columns.start p.col && nat_lt p.col l.column)) (color_texts l.color) l.initial.colors l.colors;
  within : l.column ≤ max l.columns.start l.columns.end;
}
