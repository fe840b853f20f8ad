use Rattle.std.proofs.Common.{◌≡◌, ◌++◌, flat_map, string_bytes}
use Rattle.std.specs.List.{range_with_len}
use Rattle.pg_layout.specs.Position.{at}
use Rattle.pg_config.specs.Config.{get_alignment_horizontal}
use Rattle.pg_table.specs.Markup.{delimiter_of}
use Rattle.pg_table.proofs.table.markdown.push_delimiters.Given as goal

abbrev pub invariant-loop-column : goal.invariant-loop-column
invariant-loop-column g l = string_bytes l.markdown ≡ string_bytes l.initial.markdown ++ flat_map (λ c. delimiter_of (get_alignment_horizontal l.config (at 1 c))) (range_with_len 0 l.column)
