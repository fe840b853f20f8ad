-- The open cells as a printer keeps them: with their widths, and with the places of their texts.
use Rattle.std.specs.Prelude.{◌≡◌, ℕ, ◌+◌, ◌<◌, ◌≤◌, List, map, IfSome, slice_index_or, Option, Some, None}
use Rattle.pg_layout.specs.Position.{at}
use Rattle.pg_layout.specs.Text.{Text}
use Rattle.pg_picture.specs.Inside.{facts_of, place_of}
use Rattle.pg_picture.specs.Pieces.{style_at, widest}
use Rattle.pg_picture.specs.Sizes.{height_of_rect}
use Rattle.pg_picture.specs.Table.{Table, rect_width}
use Rattle.pg_picture.specs.declared.place.CellPlace.{CellPlace}
use Rattle.pg_stream.specs.Open.{Slot}

-- an open cell, how many terminal columns it has, and where the lines of its text stand
pub record Placed : Type 0 where
  pub begun : ℕ
  pub text : Text
  pub drawn : ℕ
  pub width : ℕ
  pub place : CellPlace

abbrev pub slot_of : Option Placed → Option Slot
slot_of None = None
slot_of (Some cell) = Some (record { begun = cell.begun; text = cell.text; drawn = cell.drawn })

-- the open cells, a slot for each column
abbrev pub slots_of : List (Option Placed) → List (Option Slot)
slots_of cells = map slot_of cells

-- The width of a cell is its rectangle's, and where that has a line, the place is that of the text in it, and the
-- text has room.
pub record IsPlaced (t : Table) (x : ℕ) (cell : Placed) : Type 0 where
  pub width : cell.width ≡ rect_width t (at cell.begun x)
  pub place : 0 < height_of_rect t.config t.height (at cell.begun x)
      → cell.place ≡ place_of (facts_of (style_at t.config (at cell.begun x)).formatting cell.text) (style_at t.config (at cell.begun x)) cell.width
      (height_of_rect t.config t.height (at cell.begun x))
  pub room : 0 < height_of_rect t.config t.height (at cell.begun x)
      → ((style_at t.config (at cell.begun x)).padding.left.size + (style_at t.config (at cell.begun x)).padding.right.size)
      + widest (style_at t.config (at cell.begun x)).formatting cell.text ≤ cell.width

-- each open cell, by its column
abbrev pub AllOpen : (ℕ → Placed → Type 0) → List (Option Placed) → Type 0
AllOpen P cells = (x : ℕ) → IfSome (slice_index_or cells x None) (P x)
