-- A table's row lines, separators and margins, by coordinates.
use Rattle.std.specs.Prelude.{ℕ, ◌+◌, ◌-◌, Bool, false, ◌&&◌, ◌||◌, ◌==◌, nat_lt, nat_le, min, List, [], ◌∷◌, ◌++◌, map, flat_map, length, replicate, sum_by, count_by, Option}
use Rattle.std.specs.Prelude.{Some, None, is_some, unwrap_or, if◌then◌else◌}
use Rattle.std.specs.List.{range_with_len}
use Rattle.std.specs.Option.{option_or}
use Rattle.pg_layout.specs.declared.position.Position.{Position}
use Rattle.pg_layout.specs.declared.sides.Indent.{Indent}
use Rattle.pg_layout.specs.declared.sides.Offset.{Offset}
use Rattle.pg_layout.specs.declared.sides.Offset.TheVariants.{Start, End}
use Rattle.pg_layout.specs.Text.{Text}
use Rattle.pg_layout.specs.Position.{at}
use Rattle.pg_layout.specs.Colors.{Color}
use Rattle.pg_config.specs.Config.{Config, has_vertical, get_horizontal, get_vertical, get_intersection, get_horizontal_color, get_vertical_color, get_intersection_color, count_vertical}
use Rattle.pg_config.specs.Offsets.{lookup_offset}
use Rattle.pg_config.specs.Spans.{rect_rows, rect_columns, owner, begins_above, is_left, same_owner}
use Rattle.pg_picture.specs.Marks.{Mark, sep, line, only_if, body, marks_within, place_of}
use Rattle.pg_picture.specs.Pieces.{Piece, written, fill, style_at, block_line, Item, glyph, spaces, block, separator_text}

-- a table: what it was told, its size, its columns' widths and its rows' heights, and each cell's text and colour
pub record Table : Type 0 where
  pub config : Config
  pub rows : ℕ
  pub columns : ℕ
  pub width : ℕ → ℕ
  pub height : ℕ → ℕ
  pub text : Position → Text
  pub color : Position → Option Color

-- a table with no rows or no columns
abbrev pub is_empty : Table → Bool
is_empty t = (t.rows == 0) || (t.columns == 0)

-- ---- rectangles

unfoldable pub rect_marks : Table → Position → List Mark
rect_marks t p = marks_within t.config t.height t.rows p.row (p.row + rect_rows t.config.spans p)

unfoldable pub rect_height : Table → Position → ℕ
rect_height t p = length (rect_marks t p)

-- its columns and its inner verticals
unfoldable pub rect_width : Table → Position → ℕ
rect_width t p =
    let k : ℕ = rect_columns t.config.spans p in
    sum_by t.width (range_with_len p.col k)
    + count_by (λ c. has_vertical t.config c t.columns) (range_with_len (p.col + 1) (k - 1))

-- line i of the cell p where it is w columns wide and has h lines
abbrev pub line_of_cell : Table → Position → ℕ → ℕ → ℕ → List Piece
line_of_cell t p w h i = block_line (style_at t.config p) (t.color p) (t.text p) w h i

-- the line of the block of p at a mark
unfoldable pub block_at : Table → Position → Mark → List Piece
block_at t p mark = line_of_cell t p (rect_width t p) (rect_height t p) (place_of mark (rect_marks t p))

-- ---- a line of a row

-- x - 1 and x are columns whose places in row r have one owner
unfoldable pub is_inside : Table → ℕ → ℕ → Bool
is_inside t r x = (nat_lt 0 x && nat_lt x t.columns) && same_owner t.config.spans r (x - 1) x

-- the glyph of the vertical p on line i of h, in a table of so many columns, where there is one
unfoldable pub vertical_at : Config → ℕ → ℕ → Position → ℕ → List Piece
vertical_at config columns h p i =
    let border = get_vertical config p columns in
    let glyph = option_or (lookup_offset config.vertical_chars p i h) border in
    let color = option_or (get_vertical_color config p columns) (lookup_offset config.vertical_colors p i h) in
    if is_some border then fill (unwrap_or glyph 0) 1 color else []

-- the glyph of the vertical (r, x) on line i of row r
abbrev pub vertical : Table → ℕ → ℕ → ℕ → List Piece
vertical t r i x = vertical_at t.config t.columns (t.height r) (at r x) i

-- what column x adds to line i of row r: its vertical, and its cell where it is the left column of its owner
unfoldable pub row_part : Table → ℕ → ℕ → ℕ → List Piece
row_part t r i x =
    (if is_inside t r x then [] else vertical t r i x)
    ++ (if nat_lt x t.columns && is_left t.config.spans r x then block_at t (owner t.config.spans r x) (line r i) else [])

unfoldable pub line_of_row : Table → ℕ → ℕ → List Piece
line_of_row t r i = flat_map (row_part t r i) (range_with_len 0 (t.columns + 1))

-- ---- a separator

-- an owner that begins above row r holds the place (r, x)
unfoldable pub is_covered : Table → ℕ → ℕ → Bool
is_covered t r x = (nat_lt r t.rows && nat_lt x t.columns) && begins_above t.config.spans r x

abbrev pub crossing_item : Option ℕ → Option Color → List Item
crossing_item None color = []
crossing_item (Some g) color = glyph g color None ∷ []

-- the glyph of the crossing p in a table of so many rows and columns, where there is one
unfoldable pub crossing_at : Config → ℕ → ℕ → Position → List Item
crossing_at config rows columns p =
    if has_vertical config p.col columns
    then crossing_item (get_intersection config p rows columns) (get_intersection_color config p rows columns)
    else []

-- the crossing (r, x), unless a rectangle from above goes through it
unfoldable pub crossing : Table → ℕ → ℕ → List Item
crossing t r x = if is_inside t r x && is_covered t r x then [] else crossing_at t.config t.rows t.columns (at r x)

-- glyph i of the horizontal of p, w columns wide, whose border glyph is g of this colour
abbrev pub border_glyph : Config → Position → ℕ → ℕ → Option Color → ℕ → Item
border_glyph config p w g color i =
    glyph (unwrap_or (lookup_offset config.horizontal_chars p i w) g) color (lookup_offset config.horizontal_colors p i w)

-- its glyphs, or spaces where it has none
abbrev pub border_items : Config → Position → ℕ → ℕ → Option ℕ → List Item
border_items config p rows w None = only_if (nat_lt 0 w) (spaces w)
border_items config p rows w (Some g) = map (border_glyph config p w g (get_horizontal_color config p rows)) (range_with_len 0 w)

-- the horizontal (r, x)
abbrev pub horizontal_items : Table → ℕ → ℕ → Option ℕ → List Item
horizontal_items t r x g = border_items t.config (at r x) t.rows (t.width x) g

-- what stands in column x: the line of the rectangle from above, at its left column, or the horizontal
unfoldable pub column_items : Table → ℕ → ℕ → List Item
column_items t r x =
    if is_covered t r x then only_if (is_left t.config.spans r x) (block (block_at t (owner t.config.spans r x) (sep r)))
    else if nat_lt x t.columns then horizontal_items t r x (get_horizontal t.config (at r x) t.rows)
    else []

unfoldable pub separator_part : Table → ℕ → ℕ → List Item
separator_part t r x = crossing t r x ++ column_items t r x

unfoldable pub separator_items : Table → ℕ → List Item
separator_items t r = flat_map (separator_part t r) (range_with_len 0 (t.columns + 1))

-- ---- margins

unfoldable pub total_width : Table → ℕ
total_width t = sum_by t.width (range_with_len 0 t.columns) + count_vertical t.config t.columns

unfoldable pub full_width : Table → ℕ
full_width t = (t.config.margin.left.size + total_width t) + t.config.margin.right.size

-- a line of a top or bottom margin of w columns: its offset is blank, and only the fill is coloured
unfoldable pub margin_line : Indent → Offset → Option Color → ℕ → List Piece
margin_line indent (Start s) color w = fill 32 (min s w) None ++ fill indent.fill (w - min s w) color
margin_line indent (End e) color w = fill indent.fill (w - min e w) color ++ fill 32 (min e w) None

unfoldable pub margin_lines : Table → Indent → Offset → Option Color → List Text
margin_lines t indent offset color = replicate indent.size (written (margin_line indent offset color (full_width t)))

-- whether the number of body lines is known when a line is drawn
pub data Hint : Type 0 where
  Known : Hint
  Unknown : Hint

-- a side margin is blank at body line i of h
unfoldable pub is_blank_at : Hint → Offset → ℕ → ℕ → Bool
is_blank_at hint (Start s) i h = nat_lt i (min s h)
is_blank_at Known (End e) i h = nat_le (h - min e h) i
is_blank_at Unknown (End e) i h = false

unfoldable pub side_margin : Hint → Indent → Offset → Option Color → ℕ → ℕ → List Piece
side_margin hint indent offset color i h =
    if is_blank_at hint offset i h then fill 32 indent.size None else fill indent.fill indent.size color

-- a side margin at line i of a body of this height; of one that isn't known, as of all that have line i
abbrev pub side_margin_at : Option ℕ → Indent → Offset → Option Color → ℕ → List Piece
side_margin_at (Some h) indent offset color i = side_margin Known indent offset color i h
side_margin_at None indent offset color i = side_margin Unknown indent offset color i (i + 1)

-- ---- a line of the body

unfoldable pub mark_text : Table → Mark → Text
mark_text t (line r i) = written (line_of_row t r i)
mark_text t (sep r) = separator_text (separator_items t r)

-- the line of a mark between the side margins, as line i of h
unfoldable pub body_line : Hint → Table → ℕ → ℕ × Mark → Text
body_line hint t h (i, mark) =
    let c = t.config in
    written (side_margin hint c.margin.left c.margin_offset.left c.margin_color.left i h)
    ++ (mark_text t mark
    ++ written (side_margin hint c.margin.right c.margin_offset.right c.margin_color.right i h))

unfoldable pub table_body : Table → List Mark
table_body t = body t.config t.height t.rows
