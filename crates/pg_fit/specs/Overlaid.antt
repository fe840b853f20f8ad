-- Records of which some texts are other ones.
use Rattle.std.specs.Prelude.{ℕ, ◌-◌, nat_lt, List, [], map, length, Option, Some, None, String, string_bytes, if◌then◌else◌}
use Rattle.std.specs.List.{range_with_len}
use Rattle.pg_layout.specs.declared.position.Position.{Position}
use Rattle.pg_layout.specs.Keys.{by_place}
use Rattle.pg_layout.specs.Places.{value_at}
use Rattle.pg_layout.specs.Position.{at}
use Rattle.pg_layout.specs.Records.{Table, text_at}
use Rattle.pg_layout.specs.Text.{Text}

-- records, and the other texts that were set for places
pub record Overlay (R Z : Type 0) : Type 0 where
  pub records : R
  pub others : List (Position × String Z)

-- another text, where there is one
abbrev pub text_or : {Z : Type 0} → Option (String Z) → Text → Text
text_or None text = text
text_or (Some other) text = string_bytes other

-- the text at a place: the other one that was set there, or that of the records
abbrev pub other_text : {Z : Type 0} → List (Position × String Z) → Table → Position → Text
other_text others texts p = text_or (value_at by_place p others) (text_at texts p)

module _ {R Z : Type 0} (texts : R → Table) (columns : R → ℕ) (o : Overlay R Z) where
  -- the texts of a row from a column on
  abbrev pub row_from : ℕ → ℕ → List Text
  row_from row column = map (λ c. other_text o.others (texts o.records) (at row c)) (range_with_len column (columns o.records - column))

  -- the rows from one on
  abbrev pub rows_from : ℕ → Table
  rows_from row = map (λ r. row_from r 0) (range_with_len row (length (texts o.records) - row))

  -- all texts, by what the records tell
  abbrev pub overlaid : Table
  overlaid = rows_from 0

  -- the texts that are left of a row, where there is such a row
  abbrev pub row_left : ℕ → ℕ → List Text
  row_left row column = if nat_lt row (length (texts o.records)) then row_from row column else []
