-- Where a cursor stands in a text.
use Rattle.std.specs.Prelude.{ℕ, ◌-◌, Bool, ◌||◌, ◌==◌, ◌++◌, [], ◌∷◌, IsTrue, count_by, take, slice_index}
use Rattle.pg_layout.specs.Text.{Text}

-- a text whose last line is ended by a line feed too
abbrev pub ended : Text → Text
ended text = text ++ 10 ∷ []

-- a line of the text begins at this byte, or its last line has ended before it
unfoldable pub stands_in : ℕ → Text → Bool
stands_in place text = (place == 0) || (slice_index (ended text) (place - 1) == 10)

abbrev pub StandsIn : ℕ → Text → Type 0
StandsIn place text = IsTrue (stands_in place text)

-- how many lines have ended before this byte
unfoldable pub line_number : ℕ → Text → ℕ
line_number place text = count_by (λ b. b == 10) (take place (ended text))
