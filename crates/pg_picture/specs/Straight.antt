-- Straight columns: how wide a line is piece by piece, and what is asked for lines that are as wide as the table.
use Rattle.std.specs.Prelude.{◌≡◌, ℕ, ◌+◌, ◌*◌, ◌<◌, ◌≤◌, true, List, length, sum_by, IsSome, IfSome, encode_utf8, All}
use Rattle.std.specs.List.{enumerate_from}
use Rattle.pg_layout.specs.Text.{width_of}
use Rattle.pg_layout.specs.Position.{at}
use Rattle.pg_config.specs.Config.{has_horizontal, has_vertical, get_horizontal, get_vertical, get_intersection}
use Rattle.pg_config.specs.Offsets.{lookup_offset}
use Rattle.pg_config.specs.Spans.{owner}
use Rattle.pg_picture.specs.Marks.{Mark, sep, line}
use Rattle.pg_picture.specs.Pieces.{Piece, pieces_width, Style, style_at, Item, glyph, spaces, block}
use Rattle.pg_picture.specs.Table.{Table, Hint, line_of_row, separator_items, side_margin, margin_line, table_body, total_width, full_width}
use Rattle.pg_picture.specs.Fits.{spans_fit, owner_fits}

-- a character that takes one column
abbrev pub IsNarrow : ℕ → Type 0
IsNarrow c = width_of (encode_utf8 c) ≡ 1

-- each fill of a cell takes one column
pub record HasNarrowFills (style : Style) : Type 0 where
  pub left : IsNarrow style.padding.left.fill
  pub right : IsNarrow style.padding.right.fill
  pub top : IsNarrow style.padding.top.fill
  pub bottom : IsNarrow style.padding.bottom.fill
  pub justification : IsNarrow style.justification

-- the columns of an item: of a glyph, of spaces, and of a line of a block piece by piece
abbrev pub item_width : Item → ℕ
item_width (glyph g own offset) = width_of (encode_utf8 g)
item_width (spaces k) = k * width_of (encode_utf8 32)
item_width (block pieces) = pieces_width pieces

-- the columns of the line of a mark, piece by piece
abbrev pub mark_width : Table → Mark → ℕ
mark_width t (line r i) = pieces_width (line_of_row t r i)
mark_width t (sep r) = sum_by item_width (separator_items t r)

-- Spans that stand at places and fit, and room for each shown cell: a rectangle that another one covers in part, or that
-- leaves the table, takes columns that aren't its own, and a text without room makes its line longer.
pub record CellsFit (t : Table) : Type 0 where
  pub spans : spans_fit t.config.spans t.rows t.columns ≡ true
  pub rooms : (r c : ℕ) → r < t.rows → c < t.columns → owner_fits t (at r c) ≡ true

-- each fill of a shown cell takes one column, and so does each glyph of a border line, offset or not
pub record HasNarrowGlyphs (t : Table) : Type 0 where
  pub fills : (r c : ℕ) → r < t.rows → c < t.columns → owner t.config.spans r c ≡ at r c → HasNarrowFills (style_at t.config (at r c))
  pub verticals : (r c : ℕ) → r < t.rows → c ≤ t.columns → IfSome (get_vertical t.config (at r c) t.columns) IsNarrow
  pub vertical_offsets : (r c i : ℕ) → r < t.rows → c ≤ t.columns → i < t.height r → IfSome (lookup_offset t.config.vertical_chars (at r c) i (t.height r)) IsNarrow
  pub horizontals : (r c : ℕ) → r ≤ t.rows → c < t.columns → IfSome (get_horizontal t.config (at r c) t.rows) IsNarrow
  pub horizontal_offsets : (r c i : ℕ) → r ≤ t.rows → c < t.columns → i < t.width c → IfSome (lookup_offset t.config.horizontal_chars (at r c) i (t.width c)) IsNarrow
  pub crossings : (r c : ℕ) → r ≤ t.rows → c ≤ t.columns → IfSome (get_intersection t.config (at r c) t.rows t.columns) IsNarrow

-- A column line that is there has a glyph in each row, and at each crossing with a row line that is there. The total width
-- counts it also where nothing stands; spaces stand for a horizontal without glyph, so those need none.
pub record HasNoGaps (t : Table) : Type 0 where
  pub verticals : (r c : ℕ) → r < t.rows → c ≤ t.columns → has_vertical t.config c t.columns ≡ true → IsSome (get_vertical t.config (at r c) t.columns)
  pub crossings : (r c : ℕ) → r ≤ t.rows → c ≤ t.columns → has_horizontal t.config r t.rows ≡ true → has_vertical t.config c t.columns ≡ true
      → IsSome (get_intersection t.config (at r c) t.rows t.columns)

-- All lines of the body are as wide as the table, side margins aside.
abbrev pub HasStraightLines : Table → Type 0
HasStraightLines t = All (λ mark. mark_width t mark ≡ total_width t) (table_body t)

-- What a printer promises of a table that fits: if it has rows and columns, each of its fills and glyphs takes one column,
-- and no glyph of a column line is missing, then all lines of the body are as wide as the table.
abbrev pub IsStraight : Table → Type 0
IsStraight t = 0 < t.rows → 0 < t.columns → HasNarrowGlyphs t → HasNoGaps t → HasStraightLines t

-- each fill of a margin takes one column
pub record HasNarrowMargins (t : Table) : Type 0 where
  pub left : IsNarrow t.config.margin.left.fill
  pub right : IsNarrow t.config.margin.right.fill
  pub top : IsNarrow t.config.margin.top.fill
  pub bottom : IsNarrow t.config.margin.bottom.fill

-- the pieces of the side margins at line i of h
abbrev pub left_margin : Hint → Table → ℕ → ℕ → List Piece
left_margin hint t i h = side_margin hint t.config.margin.left t.config.margin_offset.left t.config.margin_color.left i h

abbrev pub right_margin : Hint → Table → ℕ → ℕ → List Piece
right_margin hint t i h = side_margin hint t.config.margin.right t.config.margin_offset.right t.config.margin_color.right i h

-- the columns of line i of the body with its side margins, where it has h lines
abbrev pub body_line_width : Hint → Table → ℕ → ℕ × Mark → ℕ
body_line_width hint t h (i, mark) = (pieces_width (left_margin hint t i h) + mark_width t mark) + pieces_width (right_margin hint t i h)

-- With the side margins they are as wide as the full width, and so are the lines of the top and the bottom margin.
pub record HasStraightMargins (hint : Hint) (t : Table) : Type 0 where
  pub body : All (λ line. body_line_width hint t (length (table_body t)) line ≡ full_width t) (enumerate_from 0 (table_body t))
  pub top : pieces_width (margin_line t.config.margin.top t.config.margin_offset.top t.config.margin_color.top (full_width t)) ≡ full_width t
  pub bottom : pieces_width (margin_line t.config.margin.bottom t.config.margin_offset.bottom t.config.margin_color.bottom (full_width t)) ≡ full_width t
