use Rattle.std.proofs.Common.{◌≡◌, ◌++◌, flat_map, string_bytes}
use Rattle.std.specs.List.{range_with_len}
use Rattle.pg_layout.specs.Records.{text_at}
use Rattle.pg_table.specs.Markup.{markdown_lines}
use Rattle.pg_table.proofs.table.markdown.push_table.Given as goal

abbrev pub invariant-loop-row : goal.invariant-loop-row
invariant-loop-row g l = string_bytes l.markdown ≡ string_bytes l.initial.markdown ++ flat_map (markdown_lines l.config (text_at (g.R.Records.texts l.records)) (g.R.Records.columns l.records)) (range_with_len 0 l.row)
