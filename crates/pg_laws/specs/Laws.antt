-- Laws of the picture, in words of their own.
use Rattle.std.specs.Prelude.{◌≡◌, ℕ, ◌+◌, ◌-◌, ◌<◌, ◌≤◌, ◌⊎◌, ◌==◌, true, false, List, [], ◌∷◌, ◌++◌, map, flat_map, length, Option, Some, None, IsSome, IfSome, encode_utf8, All, ◌↔◌}
use Rattle.std.specs.List.{AllZip, range_with_len, join_with_byte, Contains, AllPairs}
use Rattle.std.specs.Option.{option_to_list}
use Rattle.pg_layout.specs.declared.position.Position.{Position}
use Rattle.pg_layout.specs.declared.sides.Sides.{Sides}
use Rattle.pg_layout.specs.declared.alignment.AlignmentVertical.{AlignmentVertical}
use Rattle.pg_layout.specs.Text.{Text, lines_of}
use Rattle.pg_layout.specs.Position.{at}
use Rattle.pg_layout.specs.Colors.{Color}
use Rattle.pg_layout.specs.Borders.{no_borders}
use Rattle.pg_config.specs.CompactConfig.{CompactSettings, empty_color}
use Rattle.pg_config.specs.Overrides.{no_overrides}
use Rattle.pg_config.specs.Settings.{Settings, no_settings}
use Rattle.pg_config.specs.Config.{filled, get_horizontal, get_padding, get_formatting, Config}
use Rattle.pg_config.specs.Offsets.{no_offsets}
use Rattle.pg_config.specs.Spans.{rect_rows, rect_columns, has_row_spans, Span, in_span}
use Rattle.pg_picture.specs.Marks.{Mark, sep, line}
use Rattle.pg_picture.specs.Pieces.{Piece, run, words, in_color, repeated, written, pieces_width, style_at, shown, block_line, Item, glyph, spaces, block, separator_text}
use Rattle.pg_picture.specs.Table.{Table, Hint, Known, Unknown, rect_marks, rect_width, rect_height, block_at, vertical, row_part, line_of_row, crossing_at}
use Rattle.pg_picture.specs.Table.{horizontal_items, column_items, separator_part, separator_items, mark_text, body_line, table_body}
use Rattle.pg_picture.specs.Rectangles.{IsOwner}
use Rattle.pg_picture.specs.CompactLines.{CompactTable, Part, parts_after, compact_lines}
use Rattle.pg_picture.specs.Fits.{body_height, spans_fit, totals_fit, cell_fits, owner_fits, misfit_of, TableFits}
use Rattle.pg_picture.specs.Straight.{HasNarrowFills, left_margin, right_margin, CellsFit, HasNarrowGlyphs, HasNoGaps, HasStraightLines, HasNarrowMargins, HasStraightMargins}
use Rattle.pg_picture.specs.Plain.{cell_line, IsFromStart}
use Rattle.pg_picture.specs.declared.fits.Misfit.{Misfit}
use Rattle.pg_picture.specs.declared.fits.Misfit.TheVariants.{Spans, Totals, Room}
use Rattle.pg_picture.specs.Picture.{picture_lines, picture, compact_picture}
use Rattle.pg_picture.specs.Sizes.{height_of_rect}
use Rattle.std.specs.Borrow.{Bor}
use Rattle.pg_layout.specs.declared.records.Records as records
use Rattle.pg_layout.specs.declared.dimension.Dimension as dimension
use Rattle.pg_layout.specs.declared.colors.Colors as colors
use Rattle.pg_iter.specs.declared.grid.IterGrid.{IterGrid}
use Rattle.pg_peekable.specs.declared.grid.PeekableGrid.{PeekableGrid}
use Rattle.pg_peekable.specs.Grids.{printed_table, peekable_parts}
use Rattle.pg_iter.specs.IterGrids.{iter_parts, streamed, told}

-- ---- lines

-- A table with no rows or no columns has the empty picture.
abbrev pub NothingToDraw : Type 0
NothingToDraw = (hint : Hint) (t : Table) → (t.rows ≡ 0) ⊎ (t.columns ≡ 0) → picture hint t ≡ []

abbrev pub NothingCompactToDraw : Type 0
NothingCompactToDraw = (t : CompactTable) → (t.rows ≡ 0) ⊎ (t.columns ≡ 0) → compact_picture t ≡ []

-- Any other picture is its lines, with one line feed between each two.
abbrev pub LinesAreJoined : Type 0
LinesAreJoined = (hint : Hint) (t : Table) → 0 < t.rows → 0 < t.columns → picture hint t ≡ join_with_byte 10 (picture_lines hint t)

abbrev pub CompactLinesAreJoined : Type 0
CompactLinesAreJoined = (t : CompactTable) → 0 < t.rows → 0 < t.columns → compact_picture t ≡ join_with_byte 10 (compact_lines t)

-- a text without line feed
abbrev pub IsOneLine : Text → Type 0
IsOneLine text = All (λ b. (b == 10) ≡ false) text

-- Where no line has a line feed of its own, a picture of some lines is cut into its lines at its line feeds. A glyph, a
-- fill or a colour may be a line feed; and a text without line feed is cut into one line, never into none.
abbrev pub LinesAreCut : Type 0
LinesAreCut = (hint : Hint) (t : Table) → 0 < t.rows → 0 < t.columns → 0 < length (picture_lines hint t) → All IsOneLine (picture_lines hint t) → lines_of (picture hint t) ≡ picture_lines hint t

abbrev pub CompactLinesAreCut : Type 0
CompactLinesAreCut = (t : CompactTable) → 0 < t.rows → 0 < t.columns → 0 < length (compact_lines t) → All IsOneLine (compact_lines t) → lines_of (compact_picture t) ≡ compact_lines t

-- The lines are those of the top margin, of the body and of the bottom margin.
abbrev pub LinesAreCounted : Type 0
LinesAreCounted = (hint : Hint) (t : Table) → length (picture_lines hint t) ≡ (t.config.margin.top.size + body_height t) + t.config.margin.bottom.size

-- ---- the block of a cell

-- lines 0 to height - 1 of the block of p's rectangle
abbrev pub block_of : Table → Position → List (List Piece)
block_of t p = map (block_line (style_at t.config p) (t.color p) (t.text p) (rect_width t p) (rect_height t p)) (range_with_len 0 (rect_height t p))

-- The marks of a rectangle draw the lines of its block: each of them once, in order.
abbrev pub BlocksAreDrawn : Type 0
BlocksAreDrawn = (t : Table) (p : Position) → map (block_at t p) (rect_marks t p) ≡ block_of t p

-- so many lines, and the pieces of each are so many columns wide
pub record Fills (w h : ℕ) (lines : List (List Piece)) : Type 0 where
  pub high : length lines ≡ h
  pub wide : All (λ pieces. pieces_width pieces ≡ w) lines

-- Where a cell has room and its fills are narrow, its block is as wide and as high as its rectangle. A line that is wider
-- than its room is written whole, and a fill has so many characters as it is to have columns.
abbrev pub BlocksFill : Type 0
BlocksFill = (t : Table) (p : Position) → HasNarrowFills (style_at t.config p)
    → cell_fits (style_at t.config p) (t.text p) (rect_width t p) (rect_height t p) ≡ true
    → Fills (rect_width t p) (rect_height t p) (map (block_at t p) (rect_marks t p))

-- ---- colours

-- what stands in a piece and in an item, without colours
abbrev pub plain_piece : Piece → Text
plain_piece (run c k color) = repeated c k
plain_piece (words text color) = text

abbrev pub plain_item : Item → Text
plain_item (glyph g own offset) = encode_utf8 g
plain_item (spaces k) = repeated 32 k
plain_item (block pieces) = flat_map plain_piece pieces

-- the colours of a piece and of an item
abbrev pub colors_of_piece : Piece → List Color
colors_of_piece (run c k color) = option_to_list color
colors_of_piece (words text color) = option_to_list color

abbrev pub colors_of_item : Item → List Color
colors_of_item (glyph g own offset) = option_to_list own ++ option_to_list offset
colors_of_item (spaces k) = []
colors_of_item (block pieces) = flat_map colors_of_piece pieces

-- The text is made of parts, each of which stands alone, or between the prefix and the suffix of one of the colours.
-- Without prefixes and suffixes they are the plain text. So each prefix is followed by its suffix, and by no other
-- prefix before it.
pub record ClosesColors (colors : List Color) (plain text : Text) : Type 0 where
  pub parts : List (Option Color × Text)
  pub written : text ≡ flat_map (λ part. in_color part.0 part.1) parts
  pub uncolored : plain ≡ flat_map (λ part. part.1) parts
  pub among : All (λ part. IfSome part.0 (Contains colors)) parts

-- Pieces close their colours, and so does a separator.
abbrev pub PiecesCloseColors : Type 0
PiecesCloseColors = (pieces : List Piece) → ClosesColors (flat_map colors_of_piece pieces) (flat_map plain_piece pieces) (written pieces)

abbrev pub SeparatorsCloseColors : Type 0
SeparatorsCloseColors = (items : List Item) → ClosesColors (flat_map colors_of_item items) (flat_map plain_item items) (separator_text items)

-- what stands in the line of a mark without colours, and its colours
abbrev pub plain_mark : Table → Mark → Text
plain_mark t (line r i) = flat_map plain_piece (line_of_row t r i)
plain_mark t (sep r) = flat_map plain_item (separator_items t r)

abbrev pub colors_of_mark : Table → Mark → List Color
colors_of_mark t (line r i) = flat_map colors_of_piece (line_of_row t r i)
colors_of_mark t (sep r) = flat_map colors_of_item (separator_items t r)

-- Each line of the body closes its colours, the margins beside it too.
abbrev pub LinesCloseColors : Type 0
LinesCloseColors =
    (hint : Hint) (t : Table) (i h : ℕ) (mark : Mark)
    → ClosesColors (flat_map colors_of_piece (left_margin hint t i h) ++ (colors_of_mark t mark ++ flat_map colors_of_piece (right_margin hint t i h)))
    (flat_map plain_piece (left_margin hint t i h) ++ (plain_mark t mark ++ flat_map plain_piece (right_margin hint t i h)))
    (body_line hint t h (i, mark))

-- A separator of a compact table closes its colours.
abbrev pub PartsCloseColors : Type 0
PartsCloseColors = (parts : List Part) → ClosesColors (flat_map (λ part. option_to_list part.2) parts) (flat_map (λ part. repeated part.0 part.1) parts) (parts_after None parts)

-- the same table without colours
abbrev pub without_colors : Table → Table
without_colors t = record t {
  color = λ p. None;
  config = record t.config {
    border_colors = no_borders;
    color_overrides = no_overrides;
    horizontal_colors = no_offsets;
    vertical_colors = no_offsets;
    margin_color = filled None;
    padding_color = no_settings;
    justification_color = no_settings;
  };
}

-- the colours of all lines of a picture
abbrev pub margin_colors : Sides (Option Color) → List Color
margin_colors c = option_to_list c.left ++ (option_to_list c.right ++ (option_to_list c.top ++ option_to_list c.bottom))

abbrev pub picture_colors : Table → List Color
picture_colors t = margin_colors t.config.margin_color ++ flat_map (colors_of_mark t) (table_body t)

-- Each line of a picture closes its colours, and without them it is the line of the table without colours.
abbrev pub PictureLinesCloseColors : Type 0
PictureLinesCloseColors = (hint : Hint) (t : Table) → AllZip (ClosesColors (picture_colors t)) (picture_lines hint (without_colors t)) (picture_lines hint t)

-- the colours that a compact table was told, where it was told one, and those of its texts
abbrev pub told_colors : CompactSettings → List (Option Color)
told_colors c =
    Some c.margin_color.left ∷ Some c.margin_color.right ∷ Some c.margin_color.top ∷ Some c.margin_color.bottom
    ∷ Some c.padding_color.left ∷ Some c.padding_color.right ∷ Some c.padding_color.top ∷ Some c.padding_color.bottom
    ∷ c.borders_color.top ∷ c.borders_color.top_left ∷ c.borders_color.top_right ∷ c.borders_color.top_intersection
    ∷ c.borders_color.bottom ∷ c.borders_color.bottom_left ∷ c.borders_color.bottom_right ∷ c.borders_color.bottom_intersection
    ∷ c.borders_color.horizontal ∷ c.borders_color.left_intersection ∷ c.borders_color.right_intersection ∷ c.borders_color.intersection
    ∷ c.borders_color.left ∷ c.borders_color.right ∷ c.borders_color.vertical ∷ []

abbrev pub colors_of_row : CompactTable → ℕ → List Color
colors_of_row t r = flat_map (λ x. option_to_list (t.color (at r x))) (range_with_len 0 t.columns)

abbrev pub compact_colors : CompactTable → List Color
compact_colors t = flat_map option_to_list (told_colors t.config) ++ flat_map (colors_of_row t) (range_with_len 0 t.rows)

-- the same table without colours
abbrev pub compact_without_colors : CompactTable → CompactTable
compact_without_colors t = record t {
  color = λ p. None;
  config = record t.config { margin_color = filled empty_color; padding_color = filled empty_color; borders_color = no_borders };
}

-- Each line of a compact table closes its colours, and without them it is the line of the table without colours.
abbrev pub CompactLinesCloseColors : Type 0
CompactLinesCloseColors = (t : CompactTable) → AllZip (ClosesColors (compact_colors t)) (compact_lines (compact_without_colors t)) (compact_lines t)

-- ---- vertical alignment

-- the table with these vertical alignments in the place of its own
abbrev pub aligned_down : Settings AlignmentVertical → Table → Table
aligned_down down t = record t { config = record t.config { alignment_vertical = down } }

-- The text of p has at least as many lines as its cell has below the top padding: there is nothing to align.
abbrev pub IsFull : Table → Position → Type 0
IsFull t p = rect_height t p - (get_padding t.config p).top.size ≤ length (shown (get_formatting t.config p) (t.text p))

-- Where each cell is full, vertical alignment changes nothing.
abbrev pub FullCellsIgnoreAlignment : Type 0
FullCellsIgnoreAlignment =
    (hint : Hint) (t : Table) (down : Settings AlignmentVertical)
    → ((r c : ℕ) → r < t.rows → c < t.columns → IsFull t (at r c))
    → picture hint (aligned_down down t) ≡ picture hint t

-- No row spans, rows of one line, and texts of one line. Vertical trim would take away a blank one, and then vertical
-- alignment chooses between the fills of the top and the bottom padding.
pub record HasSingleLines (t : Table) : Type 0 where
  pub spans : has_row_spans t.config.spans ≡ false
  pub heights : (r : ℕ) → r < t.rows → t.height r ≡ 1
  pub texts : (r c : ℕ) → r < t.rows → c < t.columns → length (lines_of (t.text (at r c))) ≡ 1
  pub trims : (r c : ℕ) → r < t.rows → c < t.columns → (get_formatting t.config (at r c)).vertical_trim ≡ false

-- Then each cell is full, whatever its top padding, and so vertical alignment changes nothing.
abbrev pub SingleLinesIgnoreAlignment : Type 0
SingleLinesIgnoreAlignment = (hint : Hint) (t : Table) (down : Settings AlignmentVertical) → HasSingleLines t → picture hint (aligned_down down t) ≡ picture hint t

-- ---- straight columns

-- It has no gaps where a missing glyph is set.
abbrev pub MissingGlyphFillsGaps : Type 0
MissingGlyphFillsGaps = (t : Table) → IsSome t.config.missing → HasNoGaps t

abbrev pub ColumnsAreStraight : Type 0
ColumnsAreStraight = (t : Table) → CellsFit t → HasNarrowGlyphs t → HasNoGaps t → HasStraightLines t

abbrev pub MarginsAreStraight : Type 0
MarginsAreStraight = (hint : Hint) (t : Table) → CellsFit t → HasNarrowGlyphs t → HasNoGaps t → HasNarrowMargins t → HasStraightMargins hint t

-- ---- where a cell is drawn

-- The line of a mark has the line of p's block at the first column of its rectangle, and nothing at the others.
abbrev pub IsDrawn : Table → Position → Mark → Type 0
IsDrawn t p (line r i) =
    (row_part t r i p.col ≡ vertical t r i p.col ++ block_at t p (line r i))
    × ((c : ℕ) → p.col < c → c < p.col + rect_columns t.config.spans p → row_part t r i c ≡ [])
IsDrawn t p (sep r) =
    (column_items t r p.col ≡ block (block_at t p (sep r)) ∷ [])
    × ((c : ℕ) → p.col < c → c < p.col + rect_columns t.config.spans p → separator_part t r c ≡ [])

-- A shown cell is drawn in the line of each mark of its rectangle. Where rectangles share places, one of them loses lines.
abbrev pub ShownCellsAreDrawn : Type 0
ShownCellsAreDrawn =
    (t : Table) → spans_fit t.config.spans t.rows t.columns ≡ true
    → (p : Position) → IsOwner t p → All (IsDrawn t p) (rect_marks t p)

-- these marks stand one after another in those
pub record StandTogether (some all : List Mark) : Type 0 where
  pub before : List Mark
  pub after : List Mark
  pub is : all ≡ before ++ (some ++ after)

-- The marks of a rectangle that ends inside the table stand one after another in the body.
abbrev pub RectanglesStandTogether : Type 0
RectanglesStandTogether = (t : Table) (p : Position) → 0 < rect_rows t.config.spans p → p.row + rect_rows t.config.spans p ≤ t.rows → StandTogether (rect_marks t p) (table_body t)

-- ---- tables that were told little

-- Without spans a line of a row is a vertical and a cell for each column, and the last vertical.
abbrev pub PlainRows : Type 0
PlainRows =
    (t : Table) (r i : ℕ) → t.config.spans ≡ [] → r < t.rows → i < t.height r
    → line_of_row t r i ≡ flat_map (λ x. vertical t r i x ++ cell_line t r x i) (range_with_len 0 t.columns) ++ vertical t r i t.columns

-- A separator is a crossing and a horizontal for each column, and the last crossing.
abbrev pub PlainSeparators : Type 0
PlainSeparators =
    (t : Table) (r : ℕ) → t.config.spans ≡ []
    → separator_items t r
    ≡ flat_map (λ x. crossing_at t.config t.rows t.columns (at r x) ++ horizontal_items t r x (get_horizontal t.config (at r x) t.rows)) (range_with_len 0 t.columns)
    ++ crossing_at t.config t.rows t.columns (at r t.columns)

-- all margins have size 0
pub record HasNoMargins (t : Table) : Type 0 where
  pub left : t.config.margin.left.size ≡ 0
  pub right : t.config.margin.right.size ≡ 0
  pub top : t.config.margin.top.size ≡ 0
  pub bottom : t.config.margin.bottom.size ≡ 0

-- Then a picture is the lines of its body alone, whatever the margins' fills, colours and offsets.
abbrev pub BodiesStandAlone : Type 0
BodiesStandAlone = (hint : Hint) (t : Table) → 0 < t.rows → 0 < t.columns → HasNoMargins t → picture hint t ≡ join_with_byte 10 (map (mark_text t) (table_body t))

-- Where the side margins have offsets from the start, it doesn't matter whether the number of lines is known.
abbrev pub HintsAreIdle : Type 0
HintsAreIdle = (t : Table) → IsFromStart t.config.margin_offset.left → IsFromStart t.config.margin_offset.right → picture Unknown t ≡ picture Known t

-- ---- misfits

-- the first place without room, going row by row, in a table whose spans and totals fit
pub record IsFirstWithoutRoom (t : Table) (r c : ℕ) : Type 0 where
  pub spans : spans_fit t.config.spans t.rows t.columns ≡ true
  pub totals : totals_fit t ≡ true
  pub row : r < t.rows
  pub column : c < t.columns
  pub room : owner_fits t (at r c) ≡ false
  pub rows_before : (s d : ℕ) → s < r → d < t.columns → owner_fits t (at s d) ≡ true
  pub columns_before : (d : ℕ) → d < c → owner_fits t (at r d) ≡ true

-- what a misfit tells of a table with rows and columns
abbrev pub Tells : Table → Option Misfit → Type 0
Tells t None = TableFits t
Tells t (Some Spans) = spans_fit t.config.spans t.rows t.columns ≡ false
Tells t (Some Totals) = (spans_fit t.config.spans t.rows t.columns ≡ true) × (totals_fit t ≡ false)
Tells t (Some (Room r c)) = IsFirstWithoutRoom t r c

-- The misfit is the first that applies, and there is none where everything fits.
abbrev pub MisfitsAreFirst : Type 0
MisfitsAreFirst = (t : Table) → 0 < t.rows → 0 < t.columns → Tells t (misfit_of t)

abbrev pub FittingTablesHaveNone : Type 0
FittingTablesHaveNone = (t : Table) → TableFits t → misfit_of t ≡ None

-- ---- the conditions

abbrev pub ShareNoPlace : Span → Span → Type 0
ShareNoPlace s t = (r c : ℕ) → in_span r c s ≡ true → in_span r c t ≡ true → ⊥

-- every rectangle has a size and ends inside the table, and no place lies in two of them
pub record SpansFit (spans : List Span) (rows columns : ℕ) : Type 0 where
  pub sizes : All (λ s. (0 < s.1.rows) × (0 < s.1.columns)) spans
  pub inside : All (λ s. (s.0.row + s.1.rows ≤ rows) × (s.0.col + s.1.columns ≤ columns)) spans
  pub apart : AllPairs ShareNoPlace spans

-- The test of spans says what spans that fit are, place by place.
abbrev pub SpansFitByPlaces : Type 0
SpansFitByPlaces = (spans : List Span) (rows columns : ℕ) → (spans_fit spans rows columns ≡ true) ↔ SpansFit spans rows columns

-- A rectangle's height is the same in each table that it ends in.
abbrev pub HeightsStay : Type 0
HeightsStay = (t : Table) (p : Position) → 0 < rect_rows t.config.spans p → p.row + rect_rows t.config.spans p ≤ t.rows → rect_height t p ≡ height_of_rect t.config t.height p

-- The body has as many lines as its height says.
abbrev pub BodyHasItsHeight : Type 0
BodyHasItsHeight = (t : Table) → length (table_body t) ≡ body_height t

-- Colours don't matter to the conditions.
abbrev pub ColorsDontMatter : Type 0
ColorsDontMatter = (t : Table) (color : Position → Option Color) → misfit_of (record t { color = color }) ≡ misfit_of t

-- A table that fits has spans and totals that fit, and room in each of its cells.
abbrev pub NoMisfitMeansFits : Type 0
NoMisfitMeansFits = (t : Table) → misfit_of t ≡ None → 0 < t.rows → 0 < t.columns → TableFits t

-- ---- grids

-- the number of rows is given, or no side margin has an offset that counts from the end
abbrev pub KnowsMargins : Table → Option ℕ → Type 0
KnowsMargins t hint = IsSome hint ⊎ (IsFromStart t.config.margin_offset.left × IsFromStart t.config.margin_offset.right)

-- a streaming and a looked-up grid are made of the same parts
pub record HaveSameParts {R D C : Type 0} (streaming : IterGrid R D (Bor Config) C) (looking : PeekableGrid R (Bor Config) D C) : Type 0 where
  pub records : (iter_parts streaming).0 ≡ (peekable_parts looking).0
  pub config : (iter_parts streaming).1.now ≡ (peekable_parts looking).1.now
  pub dimension : (iter_parts streaming).2 ≡ (peekable_parts looking).2
  pub colors : (iter_parts streaming).3 ≡ (peekable_parts looking).3

-- Of the same parts the streamed and the looked-up text are one, where the number of rows is given; and where it isn't, if no side margin has an offset that counts from the end.
abbrev pub TextsAreOne : {R Cell Columns Rows D C Color : Type 0} → records.Ghosts R Cell Columns Rows → dimension.Ghosts D → colors.Ghosts C Color → Type 0
TextsAreOne {R} {Cell} {Columns} {Rows} {D} {C} records dimension colors = (streaming : IterGrid R D (Bor Config) C) (looking : PeekableGrid R (Bor Config) D C) → HaveSameParts streaming looking
    → KnowsMargins (streamed records dimension colors streaming) (records.hint (iter_parts streaming).0)
    → picture (told records streaming) (streamed records dimension colors streaming) ≡ picture Known (printed_table records dimension colors looking)
