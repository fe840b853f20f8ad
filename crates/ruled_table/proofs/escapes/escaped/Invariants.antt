use Rattle.std.proofs.Common.{◌≡◌, flat_map, string_bytes}
use Rattle.ruled_table.specs.Shown.{escape_of}
use Rattle.ruled_table.proofs.escapes.escaped.Given as goal

abbrev pub invariant-loop-c : goal.invariant-loop-c
invariant-loop-c l = string_bytes l.escaped ≡ flat_map escape_of l.yielded
