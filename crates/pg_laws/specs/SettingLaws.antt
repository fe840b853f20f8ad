-- The setters of a configuration, and laws of what is answered, in words of their own.
use Rattle.std.specs.Prelude.{◌≡◌, ℕ, ◌+◌, ◌-◌, ◌^◌, ◌<◌, Bool, true, false, not, ◌&&◌, ◌||◌, ◌==◌, nat_lt, List, Option, Some, None, is_some, if◌then◌else◌}
use Rattle.std.specs.List.{fold, list_any}
use Rattle.std.specs.Option.{option_or}
use Rattle.pg_layout.specs.Keys.{by_columns, column_place}
use Rattle.pg_layout.specs.declared.borders.Border.{Border}
use Rattle.pg_layout.specs.declared.borders.HorizontalLine.{HorizontalLine}
use Rattle.pg_layout.specs.declared.position.Position.{Position}
use Rattle.pg_layout.specs.declared.position.Entity.{Entity}
use Rattle.pg_layout.specs.declared.sides.Offset.{Offset}
use Rattle.pg_layout.specs.declared.sides.Offset.TheVariants.{Start, End}
use Rattle.pg_layout.specs.Borders.{ends}
use Rattle.pg_layout.specs.Colors.{Color}
use Rattle.pg_layout.specs.Places.{IsAscending, before, without_place}
use Rattle.pg_layout.specs.Position.{holds, is_at}
use Rattle.pg_config.specs.Settings.{Settings, setting_of, with_setting}
use Rattle.pg_config.specs.Overrides.{Overrides, on_lines, with_border, with_row_line, horizontal_override, vertical_override, crossing_override}
use Rattle.pg_config.specs.Offsets.{Offsets, offset_at, with_offset, lookup_offset, is_offset_at}
use Rattle.pg_config.specs.Spans.{Span, span_size, rect_rows, rect_columns, with_column_span, with_row_span, unless_one, get_column_span, get_row_span, in_span, owner, is_visible}
use Rattle.pg_config.specs.Config.{Config, missing_if, has_horizontal, has_vertical, get_horizontal, get_vertical, get_intersection, get_horizontal_color, get_vertical_color, get_intersection_color, has_padding_color, has_justification, has_offset_chars, default_config}
use Rattle.pg_config.specs.Inside.{SameForRows, SameForColumns}
use Rattle.pg_layout.specs.declared.sides.Indent.{Indent}
use Rattle.pg_layout.specs.declared.sides.Sides.{Sides}
use Rattle.pg_layout.specs.declared.alignment.AlignmentHorizontal.{AlignmentHorizontal}
use Rattle.pg_layout.specs.declared.alignment.AlignmentVertical.{AlignmentVertical}
use Rattle.pg_layout.specs.declared.borders.Borders.{Borders}
use Rattle.pg_config.specs.Crossings.{span_crossing, with_crossings}

-- ---- the setters

-- a setter that succeeds, with what it is handed
pub data Setter : Type 0 where
  set_padding : Entity → Sides Indent → Setter
  set_padding_color : Entity → Sides (Option Color) → Setter
  set_alignment_horizontal : Entity → AlignmentHorizontal → Setter
  set_alignment_vertical : Entity → AlignmentVertical → Setter
  set_trim_horizontal : Entity → Bool → Setter
  set_trim_vertical : Entity → Bool → Setter
  set_line_alignment : Entity → Bool → Setter
  set_justification : Entity → ℕ → Setter
  set_justification_color : Entity → Option Color → Setter
  set_borders : Borders ℕ → Setter
  set_borders_missing : Option ℕ → Setter
  set_border : Position → Border ℕ → Setter
  set_row_line : ℕ → ℕ → HorizontalLine ℕ → Setter
  set_span_crossings : ℕ → ℕ → Borders ℕ → Setter
  set_borders_color : Borders Color → Setter
  set_border_color : Position → Border Color → Setter
  set_horizontal_char : Position → Offset → ℕ → Setter
  set_horizontal_color : Position → Offset → Color → Setter
  set_vertical_char : Position → Offset → ℕ → Setter
  set_vertical_color : Position → Offset → Color → Setter
  set_margin : Sides Indent → Setter
  set_margin_offset : Sides Offset → Setter
  set_margin_color : Sides (Option Color) → Setter
  set_column_span : Position → ℕ → Setter
  set_row_span : Position → ℕ → Setter

-- what it makes of a configuration, as its contract says
abbrev pub after : Config → Setter → Config
after c (set_padding entity v) = record c { padding = with_setting entity v c.padding }
after c (set_padding_color entity v) = record c { padding_color = with_setting entity v c.padding_color }
after c (set_alignment_horizontal entity v) = record c { alignment_horizontal = with_setting entity v c.alignment_horizontal }
after c (set_alignment_vertical entity v) = record c { alignment_vertical = with_setting entity v c.alignment_vertical }
after c (set_trim_horizontal entity v) = record c { trim_horizontal = with_setting entity v c.trim_horizontal }
after c (set_trim_vertical entity v) = record c { trim_vertical = with_setting entity v c.trim_vertical }
after c (set_line_alignment entity v) = record c { line_alignment = with_setting entity v c.line_alignment }
after c (set_justification entity v) = record c { justification = with_setting entity v c.justification }
after c (set_justification_color entity v) = record c { justification_color = with_setting entity v c.justification_color }
after c (set_borders v) = record c { borders = v }
after c (set_borders_missing v) = record c { missing = v }
after c (set_border p v) = record c { overrides = with_border p v c.overrides }
after c (set_row_line r columns v) = record c { overrides = with_row_line r columns v c.overrides }
after c (set_span_crossings rows columns v) = record c { overrides = with_crossings rows columns (span_crossing c v rows columns) c.overrides }
after c (set_borders_color v) = record c { border_colors = v; border_colored = true }
after c (set_border_color p v) = record c { color_overrides = with_border p v c.color_overrides; border_colored = true }
after c (set_horizontal_char p offset v) = record c { horizontal_chars = with_offset p offset v c.horizontal_chars }
after c (set_horizontal_color p offset v) = record c { horizontal_colors = with_offset p offset v c.horizontal_colors }
after c (set_vertical_char p offset v) = record c { vertical_chars = with_offset p offset v c.vertical_chars }
after c (set_vertical_color p offset v) = record c { vertical_colors = with_offset p offset v c.vertical_colors }
after c (set_margin v) = record c { margin = v }
after c (set_margin_offset v) = record c { margin_offset = v }
after c (set_margin_color v) = record c { margin_color = v }
after c (set_column_span p n) = record c { spans = with_column_span p n c.spans }
after c (set_row_span p n) = record c { spans = with_row_span p n c.spans }

-- ---- settings by entity

-- After a setter, the places that its entity holds have the new value, and all others what they had.
abbrev pub TheLatestCounts : Type 0 → Type 0
TheLatestCounts V = (entity : Entity) (value : V) (settings : Settings V) (p : Position)
    → setting_of (with_setting entity value settings) p ≡ (if holds entity p then Some value else setting_of settings p)

-- ---- border lines

-- After a row line is set across so many columns, its horizontals have the line's glyph if it has one. All others have what they had.
abbrev pub RowLineHorizontals : Type 0 → Type 0
RowLineHorizontals G = (row columns : ℕ) (line : HorizontalLine G) (overrides : Overrides G) (p : Position)
    → horizontal_override (with_row_line row columns line overrides) p ≡ (if (p.row == row) && nat_lt p.col columns then option_or line.main (horizontal_override overrides p)
    else horizontal_override overrides p)

-- Its crossings, which are one more than the columns if there are any, have the line's glyph for an end or for between two columns if it has one.
abbrev pub RowLineCrossings : Type 0 → Type 0
RowLineCrossings G = (row columns : ℕ) (line : HorizontalLine G) (overrides : Overrides G) (p : Position)
    → crossing_override (with_row_line row columns line overrides) p ≡ (if (p.row == row) && (nat_lt 0 columns && nat_lt p.col (columns + 1))
    then option_or (ends line.left line.intersection line.right p.col columns) (crossing_override overrides p) else crossing_override overrides p)

-- Verticals have what they had.
abbrev pub RowLineVerticals : Type 0 → Type 0
RowLineVerticals G = (row columns : ℕ) (line : HorizontalLine G) (overrides : Overrides G) (p : Position)
    → vertical_override (with_row_line row columns line overrides) p ≡ vertical_override overrides p

-- what the border of the cell at p has for the eight places round the cell
module _ {G : Type 0} (p : Position) (b : Border G) where
  abbrev pub border_horizontal : Position → Option G
  border_horizontal q = if is_at q p.row p.col then b.top else if is_at q (p.row + 1) p.col then b.bottom else None

  abbrev pub border_vertical : Position → Option G
  border_vertical q = if is_at q p.row p.col then b.left else if is_at q p.row (p.col + 1) then b.right else None

  abbrev pub border_crossing : Position → Option G
  border_crossing q =
      if is_at q p.row p.col then b.top_left else if is_at q p.row (p.col + 1) then b.top_right
      else if is_at q (p.row + 1) p.col then b.bottom_left else if is_at q (p.row + 1) (p.col + 1) then b.bottom_right else None

  -- it has a value for row line r, or for column line c
  abbrev pub border_row : ℕ → Bool
  border_row r =
      ((p.row == r) && (is_some b.top || (is_some b.top_left || is_some b.top_right)))
      || ((p.row + 1 == r) && (is_some b.bottom || (is_some b.bottom_left || is_some b.bottom_right)))

  abbrev pub border_column : ℕ → Bool
  border_column c =
      ((p.col == c) && (is_some b.left || (is_some b.top_left || is_some b.bottom_left)))
      || ((p.col + 1 == c) && (is_some b.right || (is_some b.top_right || is_some b.bottom_right)))

-- It has all its parts where there is a line below the cell and one right of it, as for each cell of a table.
abbrev pub ABorderHasItsParts : Type 0 → Type 0
ABorderHasItsParts G = (p : Position) (b : Border G) → p.row < 2 ^ 64 - 1 → p.col < 2 ^ 64 - 1 → on_lines p b ≡ b

-- The border of the cell at p is set: the places round the cell are overridden with what it has for them, as far as
-- they stand on lines that there are. All others, and those that it lacks, have what they had.
pub record BorderOverrides {G : Type 0} (p : Position) (b : Border G) (old : Overrides G) (q : Position) : Type 0 where
  pub horizontal : horizontal_override (with_border p b old) q ≡ option_or (border_horizontal p (on_lines p b) q) (horizontal_override old q)
  pub vertical : vertical_override (with_border p b old) q ≡ option_or (border_vertical p (on_lines p b) q) (vertical_override old q)
  pub crossing : crossing_override (with_border p b old) q ≡ option_or (border_crossing p (on_lines p b) q) (crossing_override old q)

abbrev pub ABorderOverridesItsPlaces : Type 0 → Type 0
ABorderOverridesItsPlaces G = (p : Position) (b : Border G) (old : Overrides G) (q : Position) → BorderOverrides p b old q

-- So a line is there if it was, or if the border has a glyph for it. The glyph of a place is what the border has for it, else what it was, else the missing glyph if its line is there now.
pub record BorderGlyphs (p : Position) (b : Border ℕ) (old new : Config) (q : Position) (rows columns : ℕ) : Type 0 where
  pub row_line : has_horizontal new q.row rows ≡ (border_row p (on_lines p b) q.row || has_horizontal old q.row rows)
  pub column_line : has_vertical new q.col columns ≡ (border_column p (on_lines p b) q.col || has_vertical old q.col columns)
  pub horizontal : get_horizontal new q rows ≡ option_or (border_horizontal p (on_lines p b) q) (option_or (get_horizontal old q rows) (missing_if old (has_horizontal new q.row rows)))
  pub vertical : get_vertical new q columns ≡ option_or (border_vertical p (on_lines p b) q) (option_or (get_vertical old q columns) (missing_if old (has_vertical new q.col columns)))
  pub crossing : get_intersection new q rows columns
      ≡ option_or (border_crossing p (on_lines p b) q) (option_or (get_intersection old q rows columns) (missing_if old (has_horizontal new q.row rows && has_vertical new q.col columns)))

abbrev pub ABorderIsAnswered : Type 0
ABorderIsAnswered = (p : Position) (b : Border ℕ) (config : Config) (q : Position) (rows columns : ℕ)
    → BorderGlyphs p b config (record config { overrides = with_border p b config.overrides }) q rows columns

-- The colour of a place is what the border of colours has for it, else what it was.
pub record BorderColors (p : Position) (b : Border Color) (old new : Config) (q : Position) (rows columns : ℕ) : Type 0 where
  pub horizontal : get_horizontal_color new q rows ≡ option_or (border_horizontal p (on_lines p b) q) (get_horizontal_color old q rows)
  pub vertical : get_vertical_color new q columns ≡ option_or (border_vertical p (on_lines p b) q) (get_vertical_color old q columns)
  pub crossing : get_intersection_color new q rows columns ≡ option_or (border_crossing p (on_lines p b) q) (get_intersection_color old q rows columns)

abbrev pub ABorderOfColorsIsAnswered : Type 0
ABorderOfColorsIsAnswered = (p : Position) (b : Border Color) (config : Config) (q : Position) (rows columns : ℕ)
    → BorderColors p b config (record config { color_overrides = with_border p b config.color_overrides; border_colored = true }) q rows columns

-- A row line before the last one doesn't depend on the number of rows.
abbrev pub RowLinesStay : Type 0
RowLinesStay = (config : Config) (p : Position) (columns m n : ℕ) → p.row < m → p.row < n → SameForRows config p columns m n

-- A column line before the last one doesn't depend on the number of columns.
abbrev pub ColumnLinesStay : Type 0
ColumnLinesStay = (config : Config) (p : Position) (rows m n : ℕ) → p.col < m → p.col < n → SameForColumns config p rows m n

-- ---- offsets

-- A value set at `Start k` is that of glyph k, if there is one. All other glyphs have what they had.
abbrev pub AStartIsAnswered : Type 0 → Type 0
AStartIsAnswered V = (p : Position) (k : ℕ) (v : V) (old : Offsets V) (q : Position) (i w : ℕ)
    → lookup_offset (with_offset p (Start k) v old) q i w ≡ (if nat_lt i w && (is_at q p.row p.col && (i == k)) then Some v else lookup_offset old q i w)

-- A value set at `End k` is that of the glyph with k behind it, unless one was set for it from the start. All other glyphs have what they had.
abbrev pub AnEndIsAnswered : Type 0 → Type 0
AnEndIsAnswered V = (p : Position) (k : ℕ) (v : V) (old : Offsets V) (q : Position) (i w : ℕ)
    → lookup_offset (with_offset p (End k) v old) q i w ≡ (if is_at q p.row p.col && (i + 1 + k == w) then option_or (offset_at q (Start i) old) (Some v) else lookup_offset old q i w)

-- Its place is one with an offset from then on. All other places are what they were.
abbrev pub AnOffsetMarksItsPlace : Type 0 → Type 0
AnOffsetMarksItsPlace V = (p : Position) (offset : Offset) (v : V) (old : Offsets V) (q : Position) → is_offset_at (with_offset p offset v old) q ≡ (is_at q p.row p.col || is_offset_at old q)

-- ---- spans

-- so many rows and columns from p on hold the place
abbrev pub in_rectangle : Position → ℕ → ℕ → Position → Bool
in_rectangle p rows columns q = in_span q.row q.col (column_place p, span_size rows columns)

-- the rectangles of all cells but p
abbrev pub others : Position → List Span → List Span
others p spans = without_place by_columns (column_place p) spans

-- a rectangle holds the place; one that stands before that of p holds it
abbrev pub is_held : List Span → Position → Bool
is_held spans q = list_any (in_span q.row q.col) spans

abbrev pub is_held_before : Position → List Span → Position → Bool
is_held_before p spans q = list_any (λ s. before by_columns s.0 (column_place p) && in_span q.row q.col s) spans

-- The cell at p was told a span, so that its rectangle has so many rows and columns.
pub record AnswersSpan (p : Position) (rows columns : ℕ) (old new : List Span) (q : Position) : Type 0 where
  -- They are its size, and all other cells have the size that they had.
  pub rows_of : rect_rows new q ≡ (if is_at q p.row p.col then rows else rect_rows old q)
  pub columns_of : rect_columns new q ≡ (if is_at q p.row p.col then columns else rect_columns old q)
  pub row_span : get_row_span new q ≡ (if is_at q p.row p.col then unless_one rows else get_row_span old q)
  pub column_span : get_column_span new q ≡ (if is_at q p.row p.col then unless_one columns else get_column_span old q)
  -- It owns the places of its rectangle that none before it holds. All other places have the owner that they have without it.
  pub owner_of : owner new q.row q.col ≡ (if in_rectangle p rows columns q && not (is_held_before p old q) then p else owner (others p old) q.row q.col)
  -- So of the places that no other rectangle holds it owns those of its own, and each of the rest owns itself.
  pub alone : is_held (others p old) q ≡ false → owner new q.row q.col ≡ (if in_rectangle p rows columns q then p else q)
  -- It covers the places of its rectangle but its own. The rest are visible where they are so without it.
  pub visible : is_visible new q ≡ ((is_at q p.row p.col || not (in_rectangle p rows columns q)) && is_visible (others p old) q)

-- A span of columns keeps the rows, and a span of rows the columns. The spans of each configuration are ascending.
abbrev pub AColumnSpanIsAnswered : Type 0
AColumnSpanIsAnswered = (p : Position) (n : ℕ) (old : List Span) (q : Position) → IsAscending by_columns old → AnswersSpan p (rect_rows old p) n old (with_column_span p n old) q

abbrev pub ARowSpanIsAnswered : Type 0
ARowSpanIsAnswered = (p : Position) (n : ℕ) (old : List Span) (q : Position) → IsAscending by_columns old → AnswersSpan p n (rect_columns old p) old (with_row_span p n old) q

-- ---- what was ever set

-- the setters of a kind
abbrev pub sets_padding_color : Setter → Bool
sets_padding_color (set_padding_color entity v) = true
sets_padding_color setter = false

abbrev pub sets_justification : Setter → Bool
sets_justification (set_justification entity v) = true
sets_justification (set_justification_color entity v) = true
sets_justification setter = false

abbrev pub sets_offset : Setter → Bool
sets_offset (set_horizontal_char p offset v) = true
sets_offset (set_horizontal_color p offset v) = true
sets_offset (set_vertical_char p offset v) = true
sets_offset (set_vertical_color p offset v) = true
sets_offset setter = false

abbrev pub sets_border_color : Setter → Bool
sets_border_color (set_borders_color v) = true
sets_border_color (set_border_color p v) = true
sets_border_color setter = false

-- After some setters each test tells whether one of its kind was among them, whatever it was handed and whatever came later, or whether the test was true before them.
pub record TellWhatWasSet (setters : List Setter) (old new : Config) : Type 0 where
  pub padding_color : has_padding_color new ≡ (list_any sets_padding_color setters || has_padding_color old)
  pub justification : has_justification new ≡ (list_any sets_justification setters || has_justification old)
  pub offset_chars : has_offset_chars new ≡ (list_any sets_offset setters || has_offset_chars old)
  pub border_colors : new.border_colored ≡ (list_any sets_border_color setters || old.border_colored)

abbrev pub WhatWasSetIsTold : Type 0
WhatWasSetIsTold = (config : Config) (setters : List Setter) → TellWhatWasSet setters config (fold after config setters)

-- A configuration that was told nothing has none of them.
pub record TellsNothing (config : Config) : Type 0 where
  pub padding_color : has_padding_color config ≡ false
  pub justification : has_justification config ≡ false
  pub offset_chars : has_offset_chars config ≡ false
  pub border_colors : config.border_colored ≡ false

abbrev pub NothingWasSetAtFirst : Type 0
NothingWasSetAtFirst = TellsNothing default_config
