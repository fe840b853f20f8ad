-- Pieces of a line, the block of a cell, and how colours are opened and closed along a separator.
use Rattle.std.specs.Prelude.{ℕ, zero, suc, ◌+◌, ◌-◌, ◌*◌, ◌/◌, Bool, true, false, nat_lt, min, List, [], ◌∷◌, ◌++◌, map, flat_map, sum_by, length, replicate, slice_index_or, Option, Some}
use Rattle.std.specs.Prelude.{None, encode_utf8, if◌then◌else◌}
use Rattle.std.specs.Str.{trim}
use Rattle.pg_layout.specs.declared.alignment.Formatting.{Formatting}
use Rattle.pg_layout.specs.declared.alignment.AlignmentHorizontal.{AlignmentHorizontal}
use Rattle.pg_layout.specs.declared.alignment.AlignmentHorizontal.TheVariants as across
use Rattle.pg_layout.specs.declared.alignment.AlignmentVertical.{AlignmentVertical}
use Rattle.pg_layout.specs.declared.alignment.AlignmentVertical.TheVariants as down
use Rattle.pg_layout.specs.Text.{Text, lines_of, width_of, greatest, without_blank_ends}
use Rattle.pg_layout.specs.Colors.{Color, same_color}
pub use Rattle.pg_config.specs.Cells.{Style}
unfoldable pub use Rattle.pg_config.specs.Cells.{style_at}

-- ---- pieces

-- k times the character c, or a text, each with its colour
pub data Piece : Type 0 where
  run : ℕ → ℕ → Option Color → Piece
  words : Text → Option Color → Piece

-- prefix, text, suffix, or the text alone
abbrev pub in_color : Option Color → Text → Text
in_color None text = text
in_color (Some color) text = color.prefix ++ (text ++ color.suffix)

-- k times the character c
unfoldable pub repeated : ℕ → ℕ → Text
repeated c k = flat_map encode_utf8 (replicate k c)

abbrev pub piece_text : Piece → Text
piece_text (run c k color) = in_color color (repeated c k)
piece_text (words text color) = in_color color text

-- the columns of a piece without its colour; of a fill, k times those of the character alone
abbrev pub piece_width : Piece → ℕ
piece_width (run c k color) = k * width_of (encode_utf8 c)
piece_width (words text color) = width_of text

unfoldable pub written : List Piece → Text
written pieces = flat_map piece_text pieces

unfoldable pub pieces_width : List Piece → ℕ
pieces_width pieces = sum_by piece_width pieces

-- one run, and no piece for a size of 0
unfoldable pub fill : ℕ → ℕ → Option Color → List Piece
fill c zero color = []
fill c (suc k) color = run c (suc k) color ∷ []

-- a glyph, if there is one
abbrev pub glyph_piece : Option ℕ → Option Color → List Piece
glyph_piece None color = []
glyph_piece (Some g) color = fill g 1 color

-- ---- shown lines, and shares

unfoldable pub trimmed_if : Bool → Text → Text
trimmed_if true line = trim line
trimmed_if false line = line

-- the lines that are kept: without the blank ones at the front and at the end under vertical trim
unfoldable pub kept_lines : Formatting → Text → List Text
kept_lines f text = if f.vertical_trim then without_blank_ends (lines_of text) else lines_of text

-- the kept lines, each trimmed under horizontal trim
unfoldable pub shown : Formatting → Text → List Text
shown f text = map (trimmed_if f.horizontal_trim) (kept_lines f text)

-- the greatest width of all lines, each trimmed under horizontal trim
unfoldable pub widest : Formatting → Text → ℕ
widest f text = greatest (map (λ line. width_of (trimmed_if f.horizontal_trim line)) (lines_of text))

-- the left and the right share of what a text of width `got` leaves free in `all` columns
unfoldable pub shares : AlignmentHorizontal → ℕ → ℕ → ℕ × ℕ
shares across.Left got all = (0, all - got)
shares across.Right got all = (all - got, 0)
shares across.Center got all = ((all - got) / 2, (all - got) - (all - got) / 2)

-- how many of `available` lines stand above `real` ones
unfoldable pub lines_above : AlignmentVertical → ℕ → ℕ → ℕ
lines_above down.Top available real = 0
lines_above down.Bottom available real = available - real
lines_above down.Center available real = (available - real) / 2

-- ---- a cell's block

-- the columns that both side paddings leave
unfoldable pub inner_width : Style → ℕ → ℕ
inner_width style w = w - (style.padding.left.size + style.padding.right.size)

-- the left share of a line of width v: its own, or that of the widest line
unfoldable pub left_share : Style → Text → ℕ → ℕ → ℕ
left_share style text w v =
    (shares style.across (if style.formatting.allow_lines_alignment then v else widest style.formatting text) (inner_width style w)).0

-- a line in a cell of width w, with so many columns of justification left of it
abbrev pub line_with : Style → Option Color → ℕ → ℕ → Text → List Piece
line_with style color w share line =
    fill style.padding.left.fill style.padding.left.size style.padding_color.left
    ++ (fill style.justification share style.justification_color
    ++ (words line color
    ∷ (fill style.justification (inner_width style w - share - width_of line) style.justification_color
    ++ fill style.padding.right.fill style.padding.right.size style.padding_color.right)))

-- a line of the text in a cell of width w
unfoldable pub text_line : Style → Option Color → Text → ℕ → Text → List Piece
text_line style color text w line = line_with style color w (left_share style text w (width_of line)) line

-- how many text lines a cell of height h shows, and where they begin
unfoldable pub text_height : Style → Text → ℕ → ℕ
text_height style text h = min (length (shown style.formatting text)) (h - style.padding.top.size)

unfoldable pub text_top : Style → Text → ℕ → ℕ
text_top style text h = style.padding.top.size + lines_above style.down (h - style.padding.top.size) (text_height style text h)

-- line i of the block of a cell of width w and height h: the top fill, a text line, or the bottom fill
unfoldable pub block_line : Style → Option Color → Text → ℕ → ℕ → ℕ → List Piece
block_line style color text w h i =
    let top : ℕ = text_top style text h in
    if nat_lt i top then fill style.padding.top.fill w style.padding_color.top
    else if nat_lt i (top + text_height style text h) then text_line style color text w (slice_index_or (shown style.formatting text) (i - top) [])
    else fill style.padding.bottom.fill w style.padding_color.bottom

-- ---- separators

abbrev pub suffix_of : Option Color → Text
suffix_of None = []
suffix_of (Some c) = c.suffix

abbrev pub prefix_of : Option Color → Text
prefix_of None = []
prefix_of (Some c) = c.prefix

-- from colour c to colour d
unfoldable pub cut : Option Color → Option Color → Text
cut c d = if same_color c d then [] else suffix_of c ++ prefix_of d

-- a glyph with the colour of its place and an offset colour; spaces; a line of a block
pub data Item : Type 0 where
  glyph : ℕ → Option Color → Option Color → Item
  spaces : ℕ → Item
  block : List Piece → Item

-- the effective colour of an item after one of colour c
abbrev pub color_after : Option Color → Item → Option Color
color_after c (glyph g own offset) = own
color_after c (spaces k) = c
color_after c (block pieces) = None

-- an item, within its effective colour e
abbrev pub item_text : Option Color → Item → Text
item_text e (glyph g own None) = encode_utf8 g
item_text e (glyph g own (Some f)) = suffix_of e ++ (f.prefix ++ (encode_utf8 g ++ (f.suffix ++ prefix_of e)))
item_text e (spaces k) = repeated 32 k
item_text e (block pieces) = written pieces

-- the items after one of colour c, with the cuts between them
unfoldable pub with_cuts : Option Color → List Item → Text
with_cuts c [] = cut c None
with_cuts c (item ∷ items) = cut c (color_after c item) ++ (item_text (color_after c item) item ++ with_cuts (color_after c item) items)

unfoldable pub separator_text : List Item → Text
separator_text items = with_cuts None items

-- ---- joined lines

-- each line after a line feed
abbrev pub fed : List Text → Text
fed lines = flat_map (λ line. 10 ∷ line) lines

-- lines joined by one line feed
unfoldable pub joined : List Text → Text
joined [] = []
joined (line ∷ lines) = line ++ fed lines

-- where n lines stand already
unfoldable pub continued : ℕ → List Text → Text
continued zero lines = joined lines
continued (suc n) lines = fed lines
