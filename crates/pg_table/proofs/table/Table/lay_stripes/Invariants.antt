use Rattle.std.proofs.Common.{◌≡◌, ◌&&◌, nat_lt}
use Rattle.pg_layout.specs.Terminal.{color_texts}
use Rattle.pg_table.specs.Coloring.{AreColored, is_cell_striped, with_stripes}
use Rattle.pg_table.proofs.table.Table.lay_stripes.Given as goal

-- the rows so far
abbrev pub invariant-loop-row : goal.invariant-loop-row
invariant-loop-row g l = record {
  config : l.self.config ≡ with_stripes l.first l.step (color_texts l.color) l.row l.initial.self.config;
  colors : AreColored (λ p. nat_lt p.row l.row && is_cell_striped l.first l.step l.initial.self.rows p) (color_texts l.color) l.initial.self.colors l.self.colors;
  rows : l.self.rows ≡ l.initial.self.rows;
}
