-- Tables whose lines are equally wide.
use Rattle.std.specs.Prelude.{◌≡◌, ℕ, ◌<◌, ◌&&◌, ◌||◌, Bool, true, nat_lt, [], ◌∷◌, Option, Some, None, IfSome, IsSome}
use Rattle.std.specs.List.{list_all}
use Rattle.pg_layout.specs.declared.borders.Borders.{Borders}
use Rattle.pg_layout.specs.declared.borders.HorizontalLine.{HorizontalLine}
use Rattle.pg_layout.specs.declared.position.Position.{Position}
use Rattle.pg_layout.specs.declared.sides.Indent.{Indent}
use Rattle.pg_layout.specs.declared.sides.Sides.{Sides}
use Rattle.pg_layout.specs.Borders.{horizontal_glyph, vertical_glyph, crossing_glyph}
use Rattle.pg_layout.specs.Text.{Text}
use Rattle.pg_config.specs.Config.{Config}
use Rattle.pg_config.specs.Offsets.{no_offsets}
use Rattle.pg_config.specs.Overrides.{horizontal_override, vertical_override, crossing_override}
use Rattle.pg_picture.specs.Picture.{picture}
use Rattle.pg_picture.specs.Pieces.{style_at}
use Rattle.pg_picture.specs.Straight.{IsNarrow, HasNarrowFills, HasStraightLines, HasStraightMargins}
use Rattle.pg_picture.specs.Table.{Table, Known}

-- ---- lines

-- All lines of a table with cells are equally wide: those of the body alone, and those of the whole picture with the margins.
abbrev pub HasEvenLines : Table → Type 0
HasEvenLines t = 0 < t.rows → 0 < t.columns → HasStraightLines t × HasStraightMargins Known t

-- a text is the picture of such a table
abbrev pub IsEvenText : Text → Type 0
IsEvenText text = (t : Table) × (text ≡ picture Known t) × HasEvenLines t

-- ---- what is asked for them

-- Each glyph of the borders takes one column, and so does each one that was set for a place, and the missing glyph, which
-- is set. No glyph was set for a part of a line.
pub record HasNarrowLines (config : Config) : Type 0 where
  pub horizontals : (r rows : ℕ) → IfSome (horizontal_glyph config.borders r rows) IsNarrow
  pub verticals : (c columns : ℕ) → IfSome (vertical_glyph config.borders c columns) IsNarrow
  pub crossings : (r c rows columns : ℕ) → IfSome (crossing_glyph config.borders r c rows columns) IsNarrow
  pub set_horizontals : (p : Position) → IfSome (horizontal_override config.overrides p) IsNarrow
  pub set_verticals : (p : Position) → IfSome (vertical_override config.overrides p) IsNarrow
  pub set_crossings : (p : Position) → IfSome (crossing_override config.overrides p) IsNarrow
  pub missing : IfSome config.missing IsNarrow
  pub has_missing : IsSome config.missing
  pub horizontal_parts : config.horizontal_chars ≡ no_offsets
  pub vertical_parts : config.vertical_chars ≡ no_offsets

-- each fill of four sides takes one column
pub record HasNarrowSides (sides : Sides Indent) : Type 0 where
  pub left : IsNarrow sides.left.fill
  pub right : IsNarrow sides.right.fill
  pub top : IsNarrow sides.top.fill
  pub bottom : IsNarrow sides.bottom.fill

-- So does each fill of the paddings and of the justification, at whatever place, with or without a cell, and of the margins.
pub record IsNarrowLook (config : Config) : Type 0 where
  pub lines : HasNarrowLines config
  pub fills : (p : Position) → HasNarrowFills (style_at config p)
  pub margins : HasNarrowSides config.margin

-- Then all lines of a table at its natural sizes are equally wide.
abbrev pub IsEven : Table → Type 0
IsEven t = IsNarrowLook t.config → HasEvenLines t

-- ---- what is told

-- printable ASCII, and the box drawings from U+2500 to U+257F, which take one column each
abbrev pub is_line_glyph : ℕ → Bool
is_line_glyph c = (nat_lt 31 c && nat_lt c 127) || (nat_lt 9471 c && nat_lt c 9600)

abbrev pub is_line_glyph_if : Option ℕ → Bool
is_line_glyph_if None = true
is_line_glyph_if (Some c) = is_line_glyph c

-- each glyph of these borders, or of this line, is one of them, if it is there
abbrev pub are_line_glyphs : Borders ℕ → Bool
are_line_glyphs b =
    (list_all is_line_glyph_if (b.top ∷ b.horizontal ∷ b.bottom ∷ []) && list_all is_line_glyph_if (b.left ∷ b.vertical ∷ b.right ∷ []))
    && (list_all is_line_glyph_if (b.top_left ∷ b.top_intersection ∷ b.top_right ∷ [])
    && (list_all is_line_glyph_if (b.left_intersection ∷ b.intersection ∷ b.right_intersection ∷ [])
    && list_all is_line_glyph_if (b.bottom_left ∷ b.bottom_intersection ∷ b.bottom_right ∷ [])))

abbrev pub is_of_line_glyphs : HorizontalLine ℕ → Bool
is_of_line_glyphs line = is_line_glyph_if line.main && list_all is_line_glyph_if (line.left ∷ line.intersection ∷ line.right ∷ [])

-- each fill of four sides is one of them
abbrev pub are_line_fills : Sides Indent → Bool
are_line_fills sides = list_all is_line_glyph (sides.left.fill ∷ sides.right.fill ∷ sides.top.fill ∷ sides.bottom.fill ∷ [])
