-- What only the bodies of printers and their proofs need: no contract of a grid's call or of a condition stands on it.
use Rattle.std.specs.Prelude.{◌≡◌, ℕ, ◌+◌, ◌-◌, ◌<◌, ◌≤◌, ◌==◌, nat_lt, min, Bool, true, false, not, ◌&&◌, List, [], ◌++◌, length, slice_index_or, Option, Some, None, is_none, unwrap_or}
use Rattle.std.specs.Prelude.{if◌then◌else◌, ◌∷◌, sum_by, count_by, ◌^◌, ◌||◌, nat_le, map, flat_map, find}
use Rattle.std.specs.List.{list_all, range_with_len}
use Rattle.pg_layout.specs.Text.{Text, is_plain_byte, lines_of, width_of, blank_top, blank_bottom, without_blank_ends}
use Rattle.pg_layout.specs.declared.alignment.Formatting.{Formatting}
use Rattle.pg_layout.specs.Colors.{Color}
pub use Rattle.pg_config.specs.Cells.{style_of}
use Rattle.pg_config.specs.declared.spanned.cells.CellStyle.{CellStyle}
use Rattle.pg_picture.specs.Pieces.{Style, Piece, shown, widest, shares, lines_above, inner_width, trimmed_if, line_with, fill, written, in_color, Item, cut, color_after, item_text, continued}
use Rattle.pg_picture.specs.Pieces.{repeated, style_at}
use Rattle.pg_picture.specs.declared.facts.BlankEnds.{BlankEnds}
use Rattle.pg_picture.specs.declared.facts.TextFacts.{TextFacts}
use Rattle.pg_picture.specs.declared.facts.TextKind.{TextKind}
use Rattle.pg_picture.specs.declared.facts.TextKind.TheVariants.{Plain}
use Rattle.pg_picture.specs.declared.place.CellPlace.{CellPlace}
use Rattle.pg_layout.specs.declared.position.Position.{Position}
use Rattle.pg_layout.specs.declared.alignment.AlignmentHorizontal.TheVariants.{Left}
use Rattle.pg_config.specs.Config.{Config, get_alignment_horizontal, has_horizontal, has_equal_row_lines, default_config, has_column_lines, has_offset_chars}
use Rattle.pg_picture.specs.declared.column_sides.ColumnSides.{ColumnSides}
use Rattle.pg_picture.specs.CompactLines.{Part, own_or}
use Rattle.pg_picture.specs.Marks.{Mark}
use Rattle.pg_picture.specs.Picture.{body_lines}
use Rattle.pg_picture.specs.Table.{Table, Hint, Known, Unknown, is_blank_at, side_margin_at, rect_width, rect_height}
use Rattle.pg_layout.specs.declared.sides.Offset.{Offset}
use Rattle.pg_config.specs.Spans.{Span, owner}
use Rattle.pg_layout.specs.Position.{at, is_at}
use Rattle.pg_layout.specs.Keys.{by_columns, column_place}
use Rattle.pg_layout.specs.Places.{last_before}
use Rattle.pg_picture.specs.Fits.{are_apart}
use Rattle.pg_layout.specs.Borders.{has_top, has_bottom, has_inner_horizontal}
use Rattle.pg_picture.specs.declared.sheet.VerticalKind.{VerticalKind}
use Rattle.pg_picture.specs.declared.sheet.VerticalKind.TheVariants.{Absent, Whole, ByLine}

-- ---- what is known of a cell before its lines are written: the facts of its text, its style, its text's place

-- -- the facts of a text

-- one line more, blank or not: a blank one counts at the front where no other came before
abbrev pub with_line : BlankEnds → Bool → BlankEnds
with_line ends false = record { shown = (ends.shown + ends.bottom) + 1; top = ends.top; bottom = 0 }
with_line ends true =
    if ends.shown == 0 then record { shown = ends.shown; top = ends.top + 1; bottom = ends.bottom }
    else record { shown = ends.shown; top = ends.top; bottom = ends.bottom + 1 }

-- how many lines stand from the first to the last one that is not blank, and how many blank ones before and after them
abbrev pub empty_lines_of : List Text → ℕ × ℕ × ℕ
empty_lines_of lines = (length (without_blank_ends lines), blank_top lines, blank_bottom lines)

-- the number of shown lines, the blank ones left out before them, and the greatest width of all lines
unfoldable pub facts_of : Formatting → Text → TextFacts
facts_of f text = record {
  shown = length (shown f text);
  skip = if f.vertical_trim then blank_top (lines_of text) else 0;
  widest = widest f text;
}

-- what is known of a text of this kind: a plain one is ASCII without line feeds
abbrev pub IsOfKind : TextKind → Text → Type 0
IsOfKind kind text = kind ≡ Plain → list_all is_plain_byte text ≡ true

-- -- the style of a cell

-- line 0 of a cell is line 0 of its text, as it is
abbrev pub shows_texts_whole : Style → Bool
shows_texts_whole style = (not style.formatting.horizontal_trim && not style.formatting.vertical_trim) && (style.padding.top.size == 0)

-- the side paddings and the justification are of one character, without colours
abbrev pub has_plain_sides : Style → Bool
has_plain_sides style =
    ((style.padding.left.fill == style.justification) && (style.padding.right.fill == style.justification))
    && ((is_none style.padding_color.left && is_none style.padding_color.right) && is_none style.justification_color)

-- a text of one line stands as it is between columns of one character
abbrev pub is_simple : Style → Bool
is_simple style = shows_texts_whole style && has_plain_sides style

-- all cells have such a style
abbrev pub are_simple : {A : Type 0} → Option (CellStyle A) → Bool
are_simple None = false
are_simple (Some style) = is_simple (style_of style)

-- -- the place of a text

-- the left share of all lines, where they stand as the widest one does
abbrev pub shared_left : Style → ℕ → ℕ → Option ℕ
shared_left style widest w = if style.formatting.allow_lines_alignment then None else Some (shares style.across widest (inner_width style w)).0

-- where the lines of a text stand in a cell of width w and height h
unfoldable pub place_of : TextFacts → Style → ℕ → ℕ → CellPlace
place_of facts style w h =
    let free : ℕ = h - style.padding.top.size in
    record {
      top = style.padding.top.size + lines_above style.down free (min facts.shown free);
      shown = min facts.shown free;
      skip = facts.skip;
      left = shared_left style facts.widest w;
    }

-- where they stand in any cell that has room for the text: one of no line shows none
abbrev pub place_in : Style → Text → ℕ → ℕ → CellPlace
place_in style text w h =
    if h == 0 then record { top = 0; shown = 0; skip = 0; left = None } else place_of (facts_of style.formatting text) style w h

-- which of a text's lines stands at line i of the block, if one does
abbrev pub text_line_at : CellPlace → ℕ → Option ℕ
text_line_at place i =
    if nat_lt i place.top then None else if nat_lt i (place.top + place.shown) then Some (place.skip + (i - place.top)) else None

-- the left share of a line of width v: the widest line's, or its own
abbrev pub share_of : Style → Option ℕ → ℕ → ℕ → ℕ
share_of style left w v = unwrap_or left (shares style.across v (inner_width style w)).0

-- a text line that stands at line i of the block has room there, beside its share
abbrev pub HasRoomFor : Style → CellPlace → ℕ → ℕ → Text → Type 0
HasRoomFor style place w i line =
    place.top ≤ i
    → i < place.top + place.shown
    → ((style.padding.left.size + style.padding.right.size) + share_of style place.left w (width_of (trimmed_if style.formatting.horizontal_trim line)))
    + width_of (trimmed_if style.formatting.horizontal_trim line) ≤ w

-- the line of this number, or an empty one
abbrev pub line_if : Text → Option ℕ → Text
line_if text None = []
line_if text (Some k) = slice_index_or (lines_of text) k []

-- a line of a text as its cell shows it: trimmed or not, and with the left share of all lines or its own
unfoldable pub shown_line : Style → Option Color → Option ℕ → ℕ → Text → List Piece
shown_line style color left w line =
    let l = trimmed_if style.formatting.horizontal_trim line in
    line_with style color w (share_of style left w (width_of l)) l

-- line i of the block of a text that stands at a place, where `line` is the one of its lines that stands there
unfoldable pub placed_line : Style → Option Color → CellPlace → ℕ → ℕ → Text → List Piece
placed_line style color place w i line =
    if nat_lt i place.top then fill style.padding.top.fill w style.padding_color.top
    else if nat_lt i (place.top + place.shown) then shown_line style color place.left w line
    else fill style.padding.bottom.fill w style.padding_color.bottom

-- the text of a line in a cell, part by part
abbrev pub line_parts : Style → Option Color → ℕ → ℕ → Text → Text
line_parts style color share rest line =
    (written (fill style.padding.left.fill style.padding.left.size style.padding_color.left)
    ++ written (fill style.justification share style.justification_color))
    ++ (in_color color line
    ++ (written (fill style.justification rest style.justification_color)
    ++ written (fill style.padding.right.fill style.padding.right.size style.padding_color.right)))

-- ---- horizontal alignments of the first columns

-- each cell of one of these columns has its alignment
abbrev pub AreSidesOf : Config → ColumnSides → Type 0
AreSidesOf config sides = (p : Position) → p.col < sides.count → slice_index_or sides.first p.col Left ≡ get_alignment_horizontal config p

-- ---- styles that draw a line alike

-- The lines of a text look alike in both styles, where each has this left share, or its own where there is none: the
-- alignments matter for a line's own share alone.
abbrev pub DrawsAs : Option ℕ → Style → Style → Type 0
DrawsAs None s t = s ≡ t
DrawsAs (Some share) s t = record s { across = t.across; down = t.down } ≡ t

-- ---- what a keeper of a separator holds

-- the text that is kept, if one is, and the number of bytes for which there is room
pub record Keeping : Type 0 where
  pub text : Option Text
  pub room : ℕ

-- a text is that of the separator at each of these places, so that it can be copied there
abbrev pub IsSeparatorOf : {Place : Type 0} → (Place → Type 0) → (Place → Text) → Text → Type 0
IsSeparatorOf {Place} AmongThese separator text = (p : Place) → AmongThese p → text ≡ separator p

-- ---- what stands between an item, a part or a line and the one before it

-- -- items of a separator

-- an item after one of colour c, with the cut before it
abbrev pub item_after : Option Color → Item → Text
item_after c item = cut c (color_after c item) ++ item_text (color_after c item) item

-- items after one of colour c, with the cut before each; the last colour stays open
unfoldable pub items_after : Option Color → List Item → Text
items_after c [] = []
items_after c (item ∷ items) = item_after c item ++ items_after (color_after c item) items

-- the effective colour of the last item, or c where there is none
unfoldable pub last_color : Option Color → List Item → Option Color
last_color c [] = c
last_color c (item ∷ items) = last_color (color_after c item) items

-- -- parts of a compact separator

-- a part after one of colour c, with the cut before it
abbrev pub part_after : Option Color → Part → Text
part_after c part = cut c (own_or part.2 c) ++ repeated part.0 part.1

-- parts after one of colour c, with the cut before each; the last colour stays open
unfoldable pub open_parts : Option Color → List Part → Text
open_parts c [] = []
open_parts c (part ∷ rest) = part_after c part ++ open_parts (own_or part.2 c) rest

-- the colour that is open after the parts
unfoldable pub open_color : Option Color → List Part → Option Color
open_color c [] = c
open_color c (part ∷ rest) = open_color (own_or part.2 c) rest

-- -- lines

-- how many lines stand before the first one, or before another one
abbrev pub lines_before : Bool → ℕ
lines_before is_first = if is_first then 0 else 1

-- what stands between a line and the one before it
abbrev pub feed_before : Bool → Text
feed_before is_first = if is_first then [] else 10 ∷ []

-- the lines of these marks as a text, the first of which has index i in the body, before which n lines stand
unfoldable pub body_text : Hint → Table → ℕ → ℕ → List Mark → Text
body_text hint t n i marks = continued (n + i) (body_lines hint t i marks)

-- ---- what stands beside a line of a body whose height may not be known

-- a side margin is blank at line i of a body of this height, or of all bodies that have line i
abbrev pub is_blank_in : Option ℕ → Offset → ℕ → Bool
is_blank_in (Some h) offset i = is_blank_at Known offset i h
is_blank_in None offset i = is_blank_at Unknown offset i (i + 1)

-- what stands before line i of a body of this height: the line feed, unless the line is the picture's first, and the left margin
abbrev pub line_start : Config → Option ℕ → ℕ → Text
line_start config height i =
    feed_before ((config.margin.top.size == 0) && (i == 0))
    ++ written (side_margin_at height config.margin.left config.margin_offset.left config.margin_color.left i)

-- and behind it: the right margin
abbrev pub line_end : Config → Option ℕ → ℕ → Text
line_end config height i = written (side_margin_at height config.margin.right config.margin_offset.right config.margin_color.right i)

-- ---- rectangles as they are drawn: how far it is to the next one of a row, and how many of its lines stand above a row

-- how many columns a rectangle takes that a search found, and a cell where it found none
abbrev pub columns_or_one : Option Span → ℕ
columns_or_one None = 1
columns_or_one (Some s) = s.1.columns

-- how many lines k rows from row a on have, with the separator below each of them
abbrev pub rows_height : Table → ℕ → ℕ → ℕ
rows_height t a k = sum_by t.height (range_with_len a k) + count_by (λ r. has_horizontal t.config r t.rows) (range_with_len (a + 1) k)

-- ---- how the rectangles are told apart: within the columns in which they begin, and by one look into each column right of it that a rectangle reaches

-- the rectangle has a place, and the column behind its last one is a number of 64 bits
abbrev pub HasEnd : Span → Type 0
HasEnd s = (0 < s.1.rows) × (0 < s.1.columns) × (s.0.col + s.1.columns < 2 ^ 64)

-- t begins in another column than s, or below the last row of s
abbrev pub is_past : Option Span → Span → Bool
is_past None t = true
is_past (Some s) t = not (s.0.col == t.0.col) || nat_le (s.0.row + s.1.rows) t.0.row

-- in each column each rectangle ends above the next one; the first argument is the one before them
abbrev pub columns_apart : Option Span → List Span → Bool
columns_apart above [] = true
columns_apart above (s ∷ ss) = is_past above s && columns_apart (Some s) ss

-- t is apart from s, or doesn't begin right of the first column of s
abbrev pub apart_right : Span → Span → Bool
apart_right s t = nat_le t.0.col s.0.col || are_apart s t

-- each rectangle is apart from all that begin right of its first column
abbrev pub rows_apart : List Span → Bool
rows_apart ss = list_all (λ s. list_all (apart_right s) ss) ss

-- where t begins in column d, it ends above s
abbrev pub ends_above : Span → ℕ → Option Span → Bool
ends_above s d None = true
ends_above s d (Some t) = not (t.0.col == d) || nat_le (t.0.row + t.1.rows) s.0.row

-- the last rectangle of column d that begins above the end of s ends above s
abbrev pub apart_at : List Span → Span → ℕ → Bool
apart_at ss s d = ends_above s d (last_before by_columns (column_place (at (s.0.row + s.1.rows) d)) ss)

-- ---- the places of a table in the order in which a test walks over them, and the first one that fails

-- a place that owns itself passes a test of its style, its text, and the width and height of its rectangle
abbrev pub owner_passes : (Style → Text → ℕ → ℕ → Bool) → Table → Position → Bool
owner_passes test t p =
    not (is_at (owner t.config.spans p.row p.col) p.row p.col)
    || test (style_at t.config p) (t.text p) (rect_width t p) (rect_height t p)

-- the first of these places that fails
abbrev pub first_failed : (Position → Bool) → List Position → Option Position
first_failed passes ps = find (λ (p : Position). not (passes p)) ps

-- the places of row r from column c on, and all places from row r on
abbrev pub row_places : ℕ → ℕ → ℕ → List Position
row_places columns r c = map (at r) (range_with_len c (columns - c))

abbrev pub places_from : ℕ → ℕ → ℕ → List Position
places_from rows columns r = flat_map (λ r. map (at r) (range_with_len 0 columns)) (range_with_len r (rows - r))

-- ---- whether a table has row lines, as far as that is known before its rows come

-- The borders have a row line, or something was set for row lines by its place.
unfoldable pub may_have_row_lines : Config → Bool
may_have_row_lines config =
    ((has_top config.borders || has_bottom config.borders) || has_inner_horizontal config.borders) || not (has_equal_row_lines config)

-- ---- what verticals a table has, by its configuration alone

-- none without column lines, and one glyph for all lines of a row where no glyph and no colour was set for a part of a line
unfoldable pub verticals_of : Config → VerticalKind
verticals_of config = if has_column_lines config then (if has_offset_chars config then ByLine else Whole) else Absent
