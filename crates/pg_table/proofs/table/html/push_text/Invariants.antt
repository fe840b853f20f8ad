use Rattle.std.proofs.Common.{◌≡◌, ◌++◌, flat_map, string_bytes}
use Rattle.pg_table.specs.Markup.{reference_of}
use Rattle.pg_table.proofs.table.html.push_text.Given as goal

abbrev pub invariant-loop-c : goal.invariant-loop-c
invariant-loop-c g l = string_bytes l.html ≡ string_bytes l.initial.html ++ flat_map reference_of l.yielded
