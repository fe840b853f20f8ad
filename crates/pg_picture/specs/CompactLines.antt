-- The lines of a compact table.
use Rattle.std.specs.Prelude.{ℕ, zero, suc, ◌+◌, ◌-◌, Bool, true, false, ◌&&◌, ◌==◌, nat_lt, nat_le, List, [], ◌∷◌, ◌++◌, flat_map, length, replicate, sum_by, Option, Some, None, unwrap_or}
use Rattle.std.specs.Prelude.{if◌then◌else◌}
use Rattle.std.specs.List.{range_with_len}
use Rattle.pg_layout.specs.declared.position.Position.{Position}
use Rattle.pg_layout.specs.declared.sides.Indent.{Indent}
use Rattle.pg_layout.specs.declared.borders.Borders.{Borders}
use Rattle.pg_layout.specs.declared.borders.HorizontalLine.{HorizontalLine}
use Rattle.pg_layout.specs.Text.{Text, first_line_of, width_of}
use Rattle.pg_layout.specs.Position.{at}
use Rattle.pg_layout.specs.Borders.{has_top, has_bottom, has_left, has_right, has_inner_horizontal, has_inner_vertical}
use Rattle.pg_layout.specs.Colors.{Color}
use Rattle.pg_config.specs.CompactConfig.{CompactSettings}
use Rattle.pg_picture.specs.Pieces.{in_color, repeated, shares, cut}

pub record CompactTable : Type 0 where
  pub config : CompactSettings
  pub rows : ℕ
  pub columns : ℕ
  pub width : ℕ → ℕ
  pub text : Position → Text
  pub color : Position → Option Color

-- an empty colour counts as none
abbrev pub color_if : Color → Option Color
color_if c = if (length c.prefix == 0) && (length c.suffix == 0) then None else Some c

unfoldable pub compact_indent : ℕ → ℕ → Color → Text
compact_indent c k color = in_color (color_if color) (repeated c k)

-- a glyph in its colour
abbrev pub colored_glyph : Option ℕ → Option Color → Text
colored_glyph None color = []
colored_glyph (Some g) color = in_color color (repeated g 1)

unfoldable pub compact_width : CompactTable → ℕ
compact_width t =
    let b = t.config.borders in
    ((sum_by t.width (range_with_len 0 t.columns)
    + (if has_inner_vertical b then t.columns - 1 else 0))
    + (if has_left b then 1 else 0))
    + (if has_right b then 1 else 0)

unfoldable pub compact_full_width : CompactTable → ℕ
compact_full_width t = (t.config.margin.left.size + compact_width t) + t.config.margin.right.size

-- a line between the side margins
unfoldable pub with_margins : CompactTable → Text → Text
with_margins t text =
    let m = t.config.margin in
    let c = t.config.margin_color in
    (compact_indent m.left.fill m.left.size c.left ++ text) ++ compact_indent m.right.fill m.right.size c.right

-- the cells of a line, with the side glyphs round them and the inner glyph between
unfoldable pub between_sides : CompactTable → (ℕ → Text) → Text
between_sides t cell =
    let b = t.config.borders in
    let c = t.config.borders_color in
    (colored_glyph b.left c.left
    ++ flat_map (λ x. (if x == 0 then [] else colored_glyph b.vertical c.vertical) ++ cell x) (range_with_len 0 t.columns))
    ++ colored_glyph b.right c.right

-- a cell of a column so wide: the first line of its text, with the shares of what it leaves free; a line that is wider has none
unfoldable pub compact_cell_of : CompactSettings → ℕ → Option Color → Text → Text
compact_cell_of config w color text =
    let p = config.padding in
    let c = config.padding_color in
    let first = first_line_of text in
    let room : ℕ = w - (p.left.size + p.right.size) in
    let share = if nat_le (width_of first) room then shares config.alignment (width_of first) room else (0, 0) in
    (compact_indent p.left.fill p.left.size c.left ++ repeated 32 share.0)
    ++ (in_color color first
    ++ (repeated 32 share.1 ++ compact_indent p.right.fill p.right.size c.right))

abbrev pub compact_cell : CompactTable → ℕ → ℕ → Text
compact_cell t r x = compact_cell_of t.config (t.width x) (t.color (at r x)) (t.text (at r x))

unfoldable pub text_row : CompactTable → ℕ → Text
text_row t r = with_margins t (between_sides t (compact_cell t r))

unfoldable pub padding_row : CompactTable → Color → Text
padding_row t color = with_margins t (between_sides t (λ x. compact_indent 32 (t.width x) color))

-- ---- separators

-- a part: its glyph, how many times, its colour
abbrev pub Part : Type 0
Part = ℕ × ℕ × Option Color

abbrev pub part_if : Option ℕ → Option Color → List Part
part_if None color = []
part_if (Some g) color = (g, 1, color) ∷ []

unfoldable pub main_part : Option ℕ → Option Color → ℕ → List Part
main_part main color zero = []
main_part main color (suc w) = (unwrap_or main 32, suc w, color) ∷ []

-- the glyphs of a separator, or their colours
abbrev pub top_line : {G : Type 0} → Borders G → HorizontalLine G
top_line b = record { main = b.top; intersection = b.top_intersection; left = b.top_left; right = b.top_right }

abbrev pub bottom_line : {G : Type 0} → Borders G → HorizontalLine G
bottom_line b = record { main = b.bottom; intersection = b.bottom_intersection; left = b.bottom_left; right = b.bottom_right }

-- it ends with the glyphs `left` and `right` of a row
abbrev pub inner_line : {G : Type 0} → Borders G → HorizontalLine G
inner_line b = record { main = b.horizontal; intersection = b.intersection; left = b.left; right = b.right }

unfoldable pub parts : CompactTable → HorizontalLine ℕ → HorizontalLine Color → List Part
parts t g c =
    (part_if g.left c.left
    ++ flat_map (λ x. (if x == 0 then [] else part_if g.intersection c.intersection) ++ main_part g.main c.main (t.width x)) (range_with_len 0 t.columns))
    ++ part_if g.right c.right

abbrev pub own_or : Option Color → Option Color → Option Color
own_or None before = before
own_or (Some c) before = Some c

-- the parts after one of colour c, with the cuts between them
unfoldable pub parts_after : Option Color → List Part → Text
parts_after c [] = cut c None
parts_after c (part ∷ rest) = (cut c (own_or part.2 c) ++ repeated part.0 part.1) ++ parts_after (own_or part.2 c) rest

unfoldable pub separator_row : CompactTable → HorizontalLine ℕ → HorizontalLine Color → Text
separator_row t g c = with_margins t (parts_after None (parts t g c))

-- ---- the picture

unfoldable pub compact_margin : CompactTable → Indent → Color → List Text
compact_margin t m color = replicate m.size (compact_indent m.fill (compact_full_width t) color)

abbrev pub line_if : Bool → Text → List Text
line_if true text = text ∷ []
line_if false text = []

-- the lines of row r, after its inner separator
unfoldable pub row_lines : CompactTable → ℕ → List Text
row_lines t r =
    let b = t.config.borders in
    let p = t.config.padding in
    let c = t.config.padding_color in
    (line_if (nat_lt 0 r && has_inner_horizontal b) (separator_row t (inner_line b) (inner_line t.config.borders_color))
    ++ replicate p.top.size (padding_row t c.top))
    ++ (text_row t r ∷ replicate p.bottom.size (padding_row t c.bottom))

unfoldable pub compact_lines : CompactTable → List Text
compact_lines t =
    let b = t.config.borders in
    let c = t.config.borders_color in
    ((compact_margin t t.config.margin.top t.config.margin_color.top
    ++ line_if (has_top b) (separator_row t (top_line b) (top_line c)))
    ++ flat_map (row_lines t) (range_with_len 0 t.rows))
    ++ (line_if (has_bottom b) (separator_row t (bottom_line b) (bottom_line c))
    ++ compact_margin t t.config.margin.bottom t.config.margin_color.bottom)

-- ---- sizes

-- a compact table of empty texts without colours
abbrev pub compact_sized : CompactSettings → (ℕ → ℕ) → ℕ → CompactTable
compact_sized config width columns = record {
  config = config;
  rows = 0;
  columns = columns;
  width = width;
  text = λ p. [];
  color = λ p. None;
}
