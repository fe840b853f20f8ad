-- The part of a text that a field is.
use Rattle.std.specs.Prelude.{◌≡◌, ◌<◌, ◌≤◌, ◌+◌, ◌-◌, ◌^◌, ℕ, List, length, slice_index, Option, Some, None}
use Rattle.csv.specs.Records.{prev}

-- where the field at a place begins and ends; nothing past the last one
abbrev pub IsPart : List ℕ → ℕ → Option (ℕ × ℕ) → Type 0
IsPart ends place None = length ends ≤ place
IsPart ends place (Some (start, end)) = (place < length ends) × (place + 1 ≤ 2 ^ 64 - 1) × (start ≡ prev 0 ends place) × (end ≡ slice_index ends place)
