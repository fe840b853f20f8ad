-- Which lines a set of border glyphs has, and the glyph of each place.
use Rattle.std.specs.Prelude.{ℕ, Bool, ◌&&◌, ◌||◌, ◌==◌, nat_lt, Option, None, is_some, if◌then◌else◌}
use Rattle.pg_layout.specs.declared.borders.Borders.{Borders}
use Rattle.pg_layout.specs.declared.borders.Border.{Border}
use Rattle.pg_layout.specs.declared.borders.HorizontalLine.{HorizontalLine}

abbrev pub no_borders : {G : Type 0} → Borders G
no_borders = record {
  top = None;
  top_left = None;
  top_right = None;
  top_intersection = None;
  bottom = None;
  bottom_left = None;
  bottom_right = None;
  bottom_intersection = None;
  horizontal = None;
  left_intersection = None;
  right_intersection = None;
  intersection = None;
  left = None;
  right = None;
  vertical = None;
}

abbrev pub no_border : {G : Type 0} → Border G
no_border = record { top = None; bottom = None; left = None; right = None; top_left = None; top_right = None; bottom_left = None; bottom_right = None }

-- ---- lines

-- the first line of borders, one through the cells of a row, one between two rows, and the last one
abbrev pub top_line : {G : Type 0} → Borders G → HorizontalLine G
top_line b = record { main = b.top; intersection = b.top_intersection; left = b.top_left; right = b.top_right }

abbrev pub cell_line : {G : Type 0} → Borders G → HorizontalLine G
cell_line b = record { main = None; intersection = b.vertical; left = b.left; right = b.right }

abbrev pub inner_line : {G : Type 0} → Borders G → HorizontalLine G
inner_line b = record { main = b.horizontal; intersection = b.intersection; left = b.left_intersection; right = b.right_intersection }

abbrev pub bottom_line : {G : Type 0} → Borders G → HorizontalLine G
bottom_line b = record { main = b.bottom; intersection = b.bottom_intersection; left = b.bottom_left; right = b.bottom_right }

-- the borders of these four, whatever stands in the cells
abbrev pub of_lines : {G : Type 0} → HorizontalLine G → HorizontalLine G → HorizontalLine G → HorizontalLine G → Borders G
of_lines top cells inner bottom = record {
  top = top.main;
  top_left = top.left;
  top_right = top.right;
  top_intersection = top.intersection;
  bottom = bottom.main;
  bottom_left = bottom.left;
  bottom_right = bottom.right;
  bottom_intersection = bottom.intersection;
  horizontal = inner.main;
  left_intersection = inner.left;
  right_intersection = inner.right;
  intersection = inner.intersection;
  left = cells.left;
  right = cells.right;
  vertical = cells.intersection;
}

-- one of four values is set
abbrev pub any_of : {G : Type 0} → Option G → Option G → Option G → Option G → Bool
any_of a b c d = (is_some a || is_some b) || (is_some c || is_some d)

-- a line is there where its glyph, one of its ends or its crossing is set
unfoldable pub has_top : {G : Type 0} → Borders G → Bool
has_top b = any_of b.top b.top_left b.top_right b.top_intersection

unfoldable pub has_bottom : {G : Type 0} → Borders G → Bool
has_bottom b = any_of b.bottom b.bottom_left b.bottom_right b.bottom_intersection

unfoldable pub has_left : {G : Type 0} → Borders G → Bool
has_left b = any_of b.left b.top_left b.bottom_left b.left_intersection

unfoldable pub has_right : {G : Type 0} → Borders G → Bool
has_right b = any_of b.right b.top_right b.bottom_right b.right_intersection

unfoldable pub has_inner_horizontal : {G : Type 0} → Borders G → Bool
has_inner_horizontal b = any_of b.horizontal b.left_intersection b.right_intersection b.intersection

unfoldable pub has_inner_vertical : {G : Type 0} → Borders G → Bool
has_inner_vertical b = any_of b.vertical b.top_intersection b.bottom_intersection b.intersection

-- on a line of places 0 to n: the first, one between, or the last
abbrev pub ends : {A : Type 0} → A → A → A → ℕ → ℕ → A
ends first middle last i n = if i == 0 then first else if i == n then last else middle

-- the glyph of a horizontal in line r of a table of so many rows
unfoldable pub horizontal_glyph : {G : Type 0} → Borders G → ℕ → ℕ → Option G
horizontal_glyph b r rows = ends b.top b.horizontal b.bottom r rows

-- the glyph of a vertical in line c of a table of so many columns
unfoldable pub vertical_glyph : {G : Type 0} → Borders G → ℕ → ℕ → Option G
vertical_glyph b c columns = ends b.left b.vertical b.right c columns

-- the glyph of the crossing of the lines r and c
unfoldable pub crossing_glyph : {G : Type 0} → Borders G → ℕ → ℕ → ℕ → ℕ → Option G
crossing_glyph b r c rows columns =
    ends (ends b.top_left b.top_intersection b.top_right c columns)
    (ends b.left_intersection b.intersection b.right_intersection c columns)
    (ends b.bottom_left b.bottom_intersection b.bottom_right c columns) r rows

-- line i of the lines 0 to n is there: as the first, as the last, or as one between
unfoldable pub has_side : Bool → Bool → Bool → ℕ → ℕ → Bool
has_side first middle last i n = ((i == 0) && first) || (((i == n) && last) || ((nat_lt 0 i && nat_lt i n) && middle))
