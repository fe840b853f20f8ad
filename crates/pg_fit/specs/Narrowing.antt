-- Widths of columns within a bound.
use Rattle.std.specs.Prelude.{◌≡◌, ℕ, ◌+◌, ◌-◌, ◌<◌, ◌≤◌, max, min, nat_lt, List, [], ◌∷◌, map, sum, sum_by, length, slice_index, slice_index_or}
use Rattle.std.specs.List.{range_with_len, position_or_len}
use Rattle.pg_fit.specs.declared.narrowing.ColumnRange.{ColumnRange}

-- the width of a column where none is wider than a level: its natural width, but at most the level, and at least its least
abbrev pub share : ℕ → ColumnRange → ℕ
share level c = max c.least (min c.natural level)

-- the same column, at most so wide, where it can be as narrow
abbrev pub limited : ℕ → ColumnRange → ColumnRange
limited width c = record { least = c.least; natural = max c.least (min c.natural width) }

-- what all columns take
abbrev pub total : ℕ → List ColumnRange → ℕ
total level cs = sum_by (share level) cs

-- the widest natural width
abbrev pub widest : List ColumnRange → ℕ
widest [] = 0
widest (c ∷ cs) = max c.natural (widest cs)

-- the greatest level, up to the widest natural width, below which and at which the columns fit: the next one is the first that is too wide
unfoldable pub level : ℕ → List ColumnRange → ℕ
level room cs = position_or_len (λ l. nat_lt room (total (l + 1) cs)) (range_with_len 0 (widest cs))

-- what a column gets of what is left: one, where it could be wider
abbrev pub gain : ℕ → ℕ → ColumnRange → ℕ
gain left l c = min left (share (l + 1) c - share l c)

-- the widths at a level, where the first of the columns that could be wider are wider by one, as long as there is something left
abbrev pub handed_out : ℕ → ℕ → List ColumnRange → List ℕ
handed_out left l [] = []
handed_out left l (c ∷ cs) = (share l c + gain left l c) ∷ handed_out (left - gain left l c) l cs

-- the widths of columns within a room
unfoldable pub narrowed : ℕ → List ColumnRange → List ℕ
narrowed room cs = handed_out (room - total (level room cs) cs) (level room cs) cs

-- ---- laws

-- what the columns take at least, and at most
abbrev pub least_total : List ColumnRange → ℕ
least_total cs = sum_by (λ c. c.least) cs

abbrev pub natural_total : List ColumnRange → ℕ
natural_total cs = sum_by (λ c. max c.least c.natural) cs

-- Narrowed widths add up to the room, unless the natural widths take less, or the least widths more.
abbrev pub FillsTheRoom : Type 0
FillsTheRoom = (room : ℕ) (cs : List ColumnRange) → sum (narrowed room cs) ≡ max (least_total cs) (min (natural_total cs) room)

abbrev pub none : ColumnRange
none = record { least = 0; natural = 0 }

-- There is a width for each column, at least its least, and at most its natural one, unless that is less than its least.
abbrev pub WithinRanges : Type 0
WithinRanges =
    (room : ℕ) (cs : List ColumnRange) → (length (narrowed room cs) ≡ length cs)
    × ((i : ℕ) → i < length cs → ((slice_index_or cs i none).least ≤ slice_index (narrowed room cs) i)
    × (slice_index (narrowed room cs) i ≤ max (slice_index_or cs i none).least (slice_index_or cs i none).natural))

-- A column that is narrowed is at most one narrower than any other that is wider than its least.
abbrev pub IsEvenHanded : Type 0
IsEvenHanded =
    (room : ℕ) (cs : List ColumnRange) (i j : ℕ) → i < length cs → j < length cs
    → slice_index (narrowed room cs) i < (slice_index_or cs i none).natural → (slice_index_or cs j none).least < slice_index (narrowed room cs) j
    → slice_index (narrowed room cs) j ≤ slice_index (narrowed room cs) i + 1

-- A column that has a limit is at most so wide, unless it can't be as narrow.
abbrev pub LimitsHold : Type 0
LimitsHold =
    (room : ℕ) (cs : List ColumnRange) (i limit : ℕ) (c : ColumnRange) → i < length cs → slice_index_or cs i none ≡ limited limit c
    → slice_index (narrowed room cs) i ≤ max c.least limit

-- Where all columns fit at their natural widths they have them, and where they don't fit at their least widths, those.
abbrev pub StayNatural : Type 0
StayNatural = (room : ℕ) (cs : List ColumnRange) → natural_total cs ≤ room → narrowed room cs ≡ map (λ c. max c.least c.natural) cs

abbrev pub EndAtLeast : Type 0
EndAtLeast = (room : ℕ) (cs : List ColumnRange) → room ≤ least_total cs → narrowed room cs ≡ map (λ c. c.least) cs
