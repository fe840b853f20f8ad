use Rattle.std.proofs.Common.{◌≡◌, map, take}
use Rattle.ruled_database.specs.Tables.{value_of}
use Rattle.ruled_database.proofs.encoding.utf8_of.Given as goal

abbrev pub invariant-loop-place : goal.invariant-loop-place
invariant-loop-place l = l.row ≡ map (value_of l.is_high) (take l.place l.values)
