-- What is read of a text. A line that is left out is read as an empty one, so that lines count as in an editor.
use Rattle.std.specs.Prelude.{◌≡◌, ℕ, ◌==◌, ◌&&◌, ◌||◌, not, nat_le, Bool, true, List, [], ◌∷◌, ◌++◌, fold, if◌then◌else◌, false}
use Rattle.std.specs.List.{flat_map}
use Rattle.csv.specs.Machine.{ends_at_end}
use Rattle.ruled_csv.specs.Quotes.{is_comment, line_behind, state_behind}
use Rattle.ruled_csv.specs.declared.dialect.Dialect.{Dialect}
use Rattle.ruled_csv.specs.declared.dialect.RowRules.{RowRules}

-- a byte that ends a line; between a carriage return and a line feed is an empty one
abbrev pub is_line_end : ℕ → Bool
is_line_end byte = (byte == 10) || (byte == 13)

-- the lines of a text, each with its end, where these bytes begin the first one
abbrev pub lines_behind : List ℕ → List ℕ → List (List ℕ)
lines_behind line [] = line ∷ []
lines_behind line (byte ∷ text) = if is_line_end byte then (line ++ byte ∷ []) ∷ lines_behind [] text else lines_behind (line ++ byte ∷ []) text

abbrev pub lines_of : List ℕ → List (List ℕ)
lines_of text = lines_behind [] text

abbrev pub is_empty : List ℕ → Bool
is_empty [] = true
is_empty (byte ∷ line) = is_line_end byte

-- an empty line for this one: its end, with a carriage return in front of a line feed, which else would belong to one above
abbrev pub end_of : ℕ → List ℕ
end_of byte = if byte == 10 then 13 ∷ 10 ∷ [] else if byte == 13 then 13 ∷ [] else []

abbrev pub empty_line : List ℕ → List ℕ
empty_line line = flat_map end_of line

module _ (dialect : Dialect) (above line : List ℕ) where
  -- a line is left out, below what is read of those above: it doesn't begin within a row, and is one of the first so many, or a comment
  abbrev pub is_left_out : Bool
  is_left_out =
      not (ends_at_end (state_behind dialect above)) && not (is_empty line)
      && (nat_le (line_behind above) dialect.rows.skipped || is_comment dialect.rows.comment line)

  -- what is read of it
  abbrev pub kept_line : List ℕ
  kept_line = if is_left_out then empty_line line else line

-- what is read of the lines of a text
unfoldable pub kept_text : Dialect → List ℕ → List ℕ
kept_text dialect text = fold (λ above line. above ++ kept_line dialect above line) [] (lines_of text)

-- the lines of a text count in what is read of it
abbrev pub LinesCount : Type 0
LinesCount = (dialect : Dialect) (text : List ℕ) → line_behind (kept_text dialect text) ≡ line_behind text

-- ---- what comes before the first row

module _ (rules : RowRules) where
  -- a text behind these bytes, which may be in a line that is left out, from the first line on that is neither empty nor left out
  abbrev pub first_row_behind : List ℕ → Bool → List ℕ → List ℕ
  first_row_behind above is_out [] = []
  first_row_behind above is_out (byte ∷ text) =
      if is_line_end byte then first_row_behind (above ++ byte ∷ []) false text
      else if is_out || (nat_le (line_behind above) rules.skipped || is_comment rules.comment (byte ∷ [])) then first_row_behind (above ++ byte ∷ []) true text
      else byte ∷ text

  abbrev pub from_first_row : List ℕ → List ℕ
  from_first_row text = first_row_behind [] false text
