use Rattle.std.proofs.Common.{◌≡◌, ◌++◌, length}
use Rattle.ruled_database.specs.Tables.{units_of}
use Rattle.ruled_database.proofs.encoding.units_of.Given as goal

abbrev pub invariant-loop-bytes : goal.invariant-loop-bytes
invariant-loop-bytes l = l.units.items ++ units_of l.is_high l.bytes ≡ units_of l.is_high l.initial.bytes

abbrev pub decreases-loop-bytes : goal.decreases-loop-bytes
decreases-loop-bytes l = length l.bytes
