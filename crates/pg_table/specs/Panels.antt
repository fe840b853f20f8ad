-- Rows of a table that are panels, cells over several columns or rows, lines between rows, titles over them, and frames.
use Rattle.std.specs.Prelude.{◌≡◌, ℕ, ◌-◌, ◌&&◌, ◌||◌, Bool, nat_le, nat_lt, length, if◌then◌else◌, ◌+◌, ◌^◌, ◌==◌, not, min, List, map, sum, count_by, chars, encode_utf8, slice_index_or, Option, None}
use Rattle.std.specs.Option.{option_or}
use Rattle.pg_layout.specs.declared.borders.Border.{Border}
use Rattle.pg_layout.specs.declared.borders.HorizontalLine.{HorizontalLine}
use Rattle.pg_layout.specs.declared.position.Position.{Position}
use Rattle.pg_layout.specs.Position.{at}
use Rattle.pg_layout.specs.Records.{columns_of}
use Rattle.pg_layout.specs.Borders.{ends, no_borders, has_top, has_bottom, has_left, has_right}
use Rattle.pg_config.specs.Config.{Config, has_horizontal, has_vertical, get_horizontal, get_vertical}
use Rattle.pg_config.specs.Overrides.{with_row_line, horizontal_override, vertical_override, crossing_override}
use Rattle.pg_config.specs.Spans.{with_column_span, with_row_span}
use Rattle.pg_table.specs.Printing.{Parts}
use Rattle.pg_layout.specs.declared.borders.Borders.{Borders}
use Rattle.pg_config.specs.Crossings.{span_crossing, with_crossings}
use Rattle.std.specs.List.{range_with_len}
use Rattle.pg_layout.specs.declared.alignment.AlignmentHorizontal.{AlignmentHorizontal}
use Rattle.pg_layout.specs.Colors.{Color}
use Rattle.pg_layout.specs.Text.{Text, width_of}
use Rattle.pg_config.specs.LineGlyphs.{with_line_color, with_line_glyphs}
use Rattle.pg_picture.specs.Pieces.{shares}
use Rattle.pg_table.specs.Natural.{natural_sizes}
use Rattle.pg_table.specs.declared.sizes.Axis.TheVariants.{Columns}
use Rattle.pg_table.specs.declared.table.lines.Frame.{Frame}

-- ---- crossings that follow merged cells

-- each crossing on the edge of a merged cell, in a table of so many rows and columns, by the glyphs of these borders
abbrev pub with_span_crossings : Borders ℕ → ℕ → ℕ → Config → Config
with_span_crossings b rows columns config = record config { overrides = with_crossings rows columns (span_crossing config b rows columns) config.overrides }

-- ---- panels, cells over several columns or rows, and lines

-- the configuration with this line above row r of so many rows, where that is inside the table: the lines of the frame stay
abbrev pub with_inner_line : ℕ → HorizontalLine ℕ → ℕ → ℕ → Config → Config
with_inner_line r line rows columns config =
    if nat_lt 0 r && nat_lt r rows then record config { overrides = with_row_line r columns line config.overrides } else config

module _ {T : Type 0} where
  -- the table with a line above row r, where that is inside it; and above the last row
  abbrev pub ruled : ℕ → HorizontalLine ℕ → Parts T → Parts T
  ruled r line t = record t { config = with_inner_line r line (length t.rows) (columns_of t.rows) t.config }

  abbrev pub footed : HorizontalLine ℕ → Parts T → Parts T
  footed line t = ruled (length t.rows - 1) line t

  -- with a cell over so many columns, or over so many rows
  abbrev pub over_columns : Position → ℕ → Parts T → Parts T
  over_columns p n t = record t { config = record t.config { spans = with_column_span p n t.config.spans } }

  abbrev pub over_rows : Position → ℕ → Parts T → Parts T
  over_rows p n t = record t { config = record t.config { spans = with_row_span p n t.config.spans } }

  -- with row r as a panel: its first cell takes all columns. A row that isn't there makes none
  abbrev pub panelled : ℕ → Parts T → Parts T
  panelled r t = if nat_lt r (length t.rows) then over_columns (at r 0) (columns_of t.rows) t else t

-- ---- a title over the glyphs of a row line

-- what stands for a character of a title: itself, where it takes one column and is no line feed, and else U+FFFD
abbrev pub title_glyph : ℕ → ℕ
title_glyph c = if not (c == 10) && (width_of (encode_utf8 c) == 1) then c else 65533

-- how many columns a row line has between the first column line and the last one, but for what passes 2^64 - 1: the widths, and the
-- column lines between two columns
abbrev pub title_room : Config → List ℕ → ℕ → ℕ
title_room config widths columns = min (count_by (λ c. has_vertical config c columns) (range_with_len 1 (columns - 1)) + sum widths) (2 ^ 64 - 1)

-- how many of them stand left of a title of so many characters: the share that a cell of this width would have left of its text
abbrev pub title_start : AlignmentHorizontal → ℕ → ℕ → ℕ
title_start side count room = (shares side (min count room) room).0

-- the glyphs of a title over row line r of a table of so many rows and columns of these widths
abbrev pub with_title_glyphs : ℕ → AlignmentHorizontal → List ℕ → List ℕ → ℕ → ℕ → Config → Config
with_title_glyphs r side glyphs widths rows columns config =
    with_line_glyphs r rows columns (λ c. slice_index_or widths c 0) (title_start side (length glyphs) (title_room config widths columns)) glyphs config

-- the title over row line r of a table of so many rows and columns of these widths; and of the table of these texts at its natural sizes
unfoldable pub with_title_at : ℕ → AlignmentHorizontal → Text → List ℕ → ℕ → ℕ → Config → Config
with_title_at r side title widths rows columns config = with_title_glyphs r side (map title_glyph (chars title)) widths rows columns config

unfoldable pub with_title : ℕ → AlignmentHorizontal → Text → List (List Text) → ℕ → Config → Config
with_title r side title texts columns config = with_title_at r side title (natural_sizes Columns config texts columns) (length texts) columns config

-- this colour at the columns of a title of so many characters
unfoldable pub with_title_color : ℕ → AlignmentHorizontal → ℕ → Color → List ℕ → ℕ → ℕ → Config → Config
with_title_color r side count color widths rows columns config =
    with_line_color r rows columns (λ c. slice_index_or widths c 0) (title_start side count (title_room config widths columns)) count color config

-- ---- frames round cells, and lines between columns

-- Row line r, or column line c, of a table of so many rows or columns lies between two of them and isn't there.
abbrev pub lacks_row : Config → ℕ → ℕ → Bool
lacks_row config r rows = (nat_lt 0 r && nat_lt r rows) && not (has_horizontal config r rows)

abbrev pub lacks_column : Config → ℕ → ℕ → Bool
lacks_column config c columns = (nat_lt 0 c && nat_lt c columns) && not (has_vertical config c columns)

-- the glyphs of a frame, whose sides go on where they cross lines of the table; and those of a line between two columns
abbrev pub frame_borders : Border ℕ → Borders ℕ
frame_borders b = record no_borders {
  top = b.top;
  top_left = b.top_left;
  top_right = b.top_right;
  top_intersection = b.top;
  bottom = b.bottom;
  bottom_left = b.bottom_left;
  bottom_right = b.bottom_right;
  bottom_intersection = b.bottom;
  left = b.left;
  left_intersection = b.left;
  right = b.right;
  right_intersection = b.right;
}

abbrev pub column_borders : Borders ℕ → Borders ℕ
column_borders b = record no_borders { left = b.vertical; left_intersection = b.intersection; top_left = b.top_intersection; bottom_left = b.bottom_intersection }

-- A frame between two crossings of a table of so many rows and columns, with the lines that it adds to those of the table.
abbrev pub frame_between : Borders ℕ → Position → Position → ℕ → ℕ → Config → Frame
frame_between glyphs first last rows columns config = record {
  glyphs = glyphs;
  first = first;
  last = last;
  rows = rows;
  columns = columns;
  adds = record {
    top = has_top glyphs && lacks_row config first.row rows;
    bottom = has_bottom glyphs && lacks_row config last.row rows;
    left = has_left glyphs && lacks_column config first.col columns;
    right = has_right glyphs && lacks_column config last.col columns;
  };
}

module _ (f : Frame) where
  -- the place is on one of its two row lines, or of its two column lines
  abbrev pub is_on_row : Position → Bool
  is_on_row p = (p.row == f.first.row) || (p.row == f.last.row)

  abbrev pub is_on_column : Position → Bool
  is_on_column p = (p.col == f.first.col) || (p.col == f.last.col)

  -- its glyph at a horizontal, and at a vertical
  abbrev pub frame_horizontal : Position → Option ℕ
  frame_horizontal p =
      if nat_le f.first.col p.col && nat_lt p.col f.last.col
      then (if p.row == f.first.row then f.glyphs.top else if p.row == f.last.row then f.glyphs.bottom else None) else None

  abbrev pub frame_vertical : Position → Option ℕ
  frame_vertical p =
      if nat_le f.first.row p.row && nat_lt p.row f.last.row
      then (if p.col == f.first.col then f.glyphs.left else if p.col == f.last.col then f.glyphs.right else None) else None

  -- its glyph at a corner
  abbrev pub frame_corner : Position → Option ℕ
  frame_corner p =
      if p.row == f.first.row then (if p.col == f.first.col then f.glyphs.top_left else f.glyphs.top_right)
      else if p.col == f.first.col then f.glyphs.bottom_left else f.glyphs.bottom_right

  -- The glyph where its row line crosses a column line of the table: of the frame between its corners. Beyond them a line that it
  -- adds leaves the column lines as they are. And the same of its column lines.
  abbrev pub along_row : Config → Position → Option ℕ
  along_row config p =
      if nat_lt f.first.col p.col && nat_lt p.col f.last.col
      then (if p.row == f.first.row then f.glyphs.top_intersection else f.glyphs.bottom_intersection)
      else if (if p.row == f.first.row then f.adds.top else f.adds.bottom) then get_vertical config p f.columns else None

  abbrev pub along_column : Config → Position → Option ℕ
  along_column config p =
      if nat_lt f.first.row p.row && nat_lt p.row f.last.row
      then (if p.col == f.first.col then f.glyphs.left_intersection else f.glyphs.right_intersection)
      else if (if p.col == f.first.col then f.adds.left else f.adds.right) then get_horizontal config p f.rows else None

  -- its glyph at a crossing. One with a line that isn't there has none
  abbrev pub frame_crossing : Config → Position → Option ℕ
  frame_crossing config p =
      if not (nat_le p.row f.rows && nat_le p.col f.columns) then None
      else if is_on_row p && is_on_column p then frame_corner p
      else if is_on_row p then (if has_vertical config p.col f.columns then along_row config p else None)
      else if is_on_column p then (if has_horizontal config p.row f.rows then along_column config p else None)
      else None

-- Each place that has a glyph here has it there, and any other what it had.
pub record AreDrawn (horizontal vertical crossing : Position → Option ℕ) (old new : Config) : Type 0 where
  pub horizontals : (p : Position) → horizontal_override new.overrides p ≡ option_or (horizontal p) (horizontal_override old.overrides p)
  pub verticals : (p : Position) → vertical_override new.overrides p ≡ option_or (vertical p) (vertical_override old.overrides p)
  pub crossings : (p : Position) → crossing_override new.overrides p ≡ option_or (crossing p) (crossing_override old.overrides p)
  pub others : new ≡ record old { overrides = new.overrides }

abbrev pub IsFramed : Frame → Config → Config → Type 0
IsFramed f old new = AreDrawn (frame_horizontal f) (frame_vertical f) (frame_crossing f old) old new

-- the frame round the cells from one to another, as far as the table has them; round no cell it has no glyph
abbrev pub borders_round : Border ℕ → Position → Position → Borders ℕ
borders_round b first last = if nat_lt first.row last.row && nat_lt first.col last.col then frame_borders b else no_borders

abbrev pub frame_round : Position → Position → Border ℕ → ℕ → ℕ → Config → Frame
frame_round from to border rows columns config =
    let last : Position = at (min rows (to.row + 1)) (min columns (to.col + 1)) in
    frame_between (borders_round border from last) from last rows columns config

module _ (c : ℕ) (b : Borders ℕ) (rows columns : ℕ) where
  -- the place is on the line left of column c, which is between two columns
  abbrev pub is_left_of : Position → Bool
  is_left_of p = (nat_lt 0 c && nat_lt c columns) && (p.col == c)

  -- its glyph beside each row, and at each crossing with a row line of the table
  abbrev pub column_vertical : Position → Option ℕ
  column_vertical p = if is_left_of p && nat_lt p.row rows then b.vertical else None

  abbrev pub column_crossing : Config → Position → Option ℕ
  column_crossing config p =
      if is_left_of p && (nat_le p.row rows && has_horizontal config p.row rows)
      then ends b.top_intersection b.intersection b.bottom_intersection p.row rows else None

  abbrev pub HasColumnLine : Config → Config → Type 0
  HasColumnLine old new = AreDrawn (λ p. None) column_vertical (column_crossing old) old new
