-- The body of a table as a list of marks, one for each line, and the marks of a rectangle.
use Rattle.std.specs.Prelude.{ℕ, zero, suc, ◌+◌, Bool, true, false, ◌&&◌, ◌==◌, nat_lt, nat_le, List, [], ◌∷◌, ◌++◌, map, filter}
use Rattle.std.specs.List.{range_with_len, position_or_len}
use Rattle.pg_config.specs.Config.{Config, has_horizontal}

-- the separator above row r (or below the last row); line i of row r
pub data Mark : Type 0 where
  sep : ℕ → Mark
  line : ℕ → ℕ → Mark

abbrev pub same_mark : Mark → Mark → Bool
same_mark (sep r) (sep s) = r == s
same_mark (line r i) (line s j) = (r == s) && (i == j)
same_mark (sep r) (line s j) = false
same_mark (line r i) (sep s) = false

abbrev pub only_if : {A : Type 0} → Bool → A → List A
only_if true a = a ∷ []
only_if false a = []

-- the marks of row r: its separator, where it has one, and its lines
unfoldable pub marks_of_row : Config → (ℕ → ℕ) → ℕ → List Mark
marks_of_row config height r = only_if (has_horizontal config r (r + 1)) (sep r) ++ map (line r) (range_with_len 0 (height r))

-- the marks of the first rows
unfoldable pub marks_above : Config → (ℕ → ℕ) → ℕ → List Mark
marks_above config height zero = []
marks_above config height (suc r) = marks_above config height r ++ marks_of_row config height r

-- the marks of so many rows, and the separator below them
unfoldable pub body : Config → (ℕ → ℕ) → ℕ → List Mark
body config height rows = marks_above config height rows ++ only_if (has_horizontal config rows rows) (sep rows)

-- the mark stands in a rectangle of rows a to b (b excluded): a separator only between two of its rows
abbrev pub stands_within : ℕ → ℕ → Mark → Bool
stands_within a b (sep r) = nat_lt a r && nat_lt r b
stands_within a b (line r i) = nat_le a r && nat_lt r b

unfoldable pub marks_within : Config → (ℕ → ℕ) → ℕ → ℕ → ℕ → List Mark
marks_within config height rows a b = filter (stands_within a b) (body config height rows)

-- the place of a mark is its index
unfoldable pub place_of : Mark → List Mark → ℕ
place_of mark marks = position_or_len (same_mark mark) marks
