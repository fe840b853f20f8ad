use Rattle.std.proofs.Common.{ℕ, ◌<◌, get_or}
use Rattle.std.specs.Str.{IsCharBoundary}
use Rattle.ruled_row.proofs.buffer.are_cuts.Given as goal

abbrev pub invariant-loop-place : goal.invariant-loop-place
invariant-loop-place l = (k : ℕ) → k < l.place-index → IsCharBoundary l.text (get_or l.places k 0)
