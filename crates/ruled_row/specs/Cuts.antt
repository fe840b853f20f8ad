-- Where a text may be cut.
use Rattle.std.specs.Prelude.{ℕ, ◌<◌, List, length, slice_index}
use Rattle.std.specs.Str.{IsCharBoundary}

-- at each of these places
abbrev pub AreCuts : List ℕ → List ℕ → Type 0
AreCuts text places = (k : ℕ) → k < length places → IsCharBoundary text (slice_index places k)
