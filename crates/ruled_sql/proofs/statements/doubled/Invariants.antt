use Rattle.std.proofs.Common.{◌≡◌, flat_map, string_bytes}
use Rattle.ruled_sql.specs.Filled.{quote_of}
use Rattle.ruled_sql.proofs.statements.doubled.Given as goal

abbrev pub invariant-loop-c : goal.invariant-loop-c
invariant-loop-c l = string_bytes l.text ≡ flat_map quote_of l.yielded
