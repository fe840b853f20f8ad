use Rattle.std.proofs.Common.{◌≡◌, ◌++◌, flat_map, string_bytes}
use Rattle.std.specs.List.{range_with_len}
use Rattle.pg_layout.specs.Position.{at}
use Rattle.pg_layout.specs.Records.{text_at}
use Rattle.pg_table.specs.Markup.{html_cell}
use Rattle.pg_table.proofs.table.html.push_row.Given as goal

abbrev pub invariant-loop-column : goal.invariant-loop-column
invariant-loop-column g l = string_bytes l.html ≡ string_bytes l.initial.html ++ flat_map (λ c. html_cell l.config (text_at (g.R.Records.texts l.records)) (at l.row c)) (range_with_len 0 l.column)
