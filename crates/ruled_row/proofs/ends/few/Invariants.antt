use Rattle.std.proofs.Common.{◌≡◌, take}
use Rattle.ruled_row.proofs.ends.few.Given as goal

abbrev pub invariant-loop-place : goal.invariant-loop-place
invariant-loop-place l = l.few.items ≡ take l.place-index l.places
