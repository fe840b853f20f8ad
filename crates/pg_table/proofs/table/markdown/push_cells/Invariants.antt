use Rattle.std.proofs.Common.{◌≡◌, ◌++◌, flat_map, string_bytes}
use Rattle.std.specs.List.{range_with_len}
use Rattle.pg_layout.specs.Position.{at}
use Rattle.pg_layout.specs.Records.{text_at}
use Rattle.pg_table.specs.Markup.{markdown_cell}
use Rattle.pg_table.proofs.table.markdown.push_cells.Given as goal

abbrev pub invariant-loop-column : goal.invariant-loop-column
invariant-loop-column g l = string_bytes l.markdown ≡ string_bytes l.initial.markdown ++ flat_map (λ c. markdown_cell l.config (text_at (g.R.Records.texts l.records)) (at l.row c)) (range_with_len 0 l.column)
