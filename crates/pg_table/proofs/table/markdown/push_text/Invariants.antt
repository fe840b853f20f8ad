use Rattle.std.proofs.Common.{◌≡◌, ◌++◌, flat_map, string_bytes}
use Rattle.pg_table.specs.Markup.{escape_of}
use Rattle.pg_table.proofs.table.markdown.push_text.Given as goal

abbrev pub invariant-loop-c : goal.invariant-loop-c
invariant-loop-c g l = string_bytes l.markdown ≡ string_bytes l.initial.markdown ++ flat_map escape_of l.yielded
