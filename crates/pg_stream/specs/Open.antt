-- The cells of a table that are open between two rows: they begin above, and go on below.
use Rattle.std.specs.Prelude.{ℕ, ◌+◌, ◌&&◌, ◌==◌, nat_lt, List, [], map, filter, length, Option, Some, None, if◌then◌else◌}
use Rattle.std.specs.List.{range_with_len}
use Rattle.pg_layout.specs.declared.position.Position.{Position}
use Rattle.pg_layout.specs.Text.{Text}
use Rattle.pg_config.specs.Config.{Config}
use Rattle.pg_config.specs.Spans.{rect_rows, owner}
use Rattle.pg_picture.specs.Marks.{marks_above, stands_within}
use Rattle.pg_picture.specs.Table.{Table}

-- an open cell: the row where it begins, its text, and how many of its lines are drawn
pub record Slot : Type 0 where
  pub begun : ℕ
  pub text : Text
  pub drawn : ℕ

-- the text of an open cell, or of none
abbrev pub slot_text : Option Slot → Text
slot_text None = []
slot_text (Some slot) = slot.text

-- how many lines the rectangle of p has in the first k rows
unfoldable pub drawn_before : Config → (ℕ → ℕ) → ℕ → Position → ℕ
drawn_before config height k p = length (filter (stands_within p.row (p.row + rect_rows config.spans p)) (marks_above config height k))

-- the owner of (k, c), if it begins above row k and c is its left column
unfoldable pub open_at_row : Table → ℕ → ℕ → Option Slot
open_at_row t k c =
    let p = owner t.config.spans k c in
    if nat_lt p.row k && (p.col == c)
    then Some (record { begun = p.row; text = t.text p; drawn = drawn_before t.config t.height k p })
    else None

-- what is open between the first k rows and row k, each cell at its left column
unfoldable pub open_before : Table → ℕ → List (Option Slot)
open_before t k = map (open_at_row t k) (range_with_len 0 t.columns)
