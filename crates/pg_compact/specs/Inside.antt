-- What the printer of a compact grid draws: the rows that it is given, and the parts of its lines.
use Rattle.std.specs.Prelude.{◌≡◌, ℕ, ◌^◌, ◌≤◌, ◌<◌, ◌==◌, All, drop, slice_index_or, List, [], ◌∷◌, ◌++◌, length, replicate, Option, if◌then◌else◌}
use Rattle.std.specs.Iterator.{Count}
use Rattle.std.specs.Option.{option_map}
use Rattle.pg_layout.specs.declared.borders.HorizontalLine.{HorizontalLine}
use Rattle.pg_layout.specs.declared.colors.ANSIStr.{ANSIStr}
use Rattle.pg_layout.specs.declared.position.Position.{Position}
use Rattle.pg_layout.specs.Colors.{Color, str_color}
use Rattle.pg_layout.specs.Borders.{has_top, has_bottom, has_inner_horizontal}
use Rattle.pg_layout.specs.Records.{text_at, AlwaysGives, Gives}
use Rattle.pg_layout.specs.Text.{Text}
use Rattle.pg_config.specs.CompactConfig.{settings_of}
use Rattle.pg_picture.specs.CompactLines.{CompactTable, compact_indent, compact_cell, Part, part_if, main_part, padding_row, text_row, compact_margin, line_if, separator_row}
use Rattle.pg_picture.specs.CompactLines.{top_line, bottom_line, inner_line}
use Rattle.pg_picture.specs.Inside.{IsSeparatorOf}
use Rattle.pg_compact.specs.RowEdges.{between_cells}
use Rattle.pg_compact.specs.declared.printer.CompactPrinter.{CompactPrinter}

-- the table of these texts, as a printer draws it
abbrev pub printed_table : {D C : Type 0} → (D → ℕ → ℕ) → (C → Position → Option Color) → CompactPrinter D C → List (List Text) → CompactTable
printed_table width color printer texts = record {
  config = settings_of printer.config.now;
  rows = length texts;
  columns = printer.columns;
  width = width printer.dimension;
  text = text_at texts;
  color = color printer.colors;
}

-- the cells that an iterator gives are row r of these texts, one for each column
pub record IsRow {S A : Type 0} (text : A → Text) (steps : S → Option A → S → Type 0) (columns : ℕ) (texts : List (List Text)) (r : ℕ) (cells : S) : Type 0 where
  pub gives : AlwaysGives (λ x y. text x ≡ y) steps cells (slice_index_or texts r [])
  pub even : length (slice_index_or texts r []) ≡ columns

-- an iterator may be run to its end, and gives the rows of these texts from a first one on; each has a cell for each column, and all can be counted
pub record AreRows {S A : Type 0} (is_row : A → List Text → Type 0) (can : S → Type 0) (steps : S → Option A → S → Type 0) (left : S
    → Count) (columns : ℕ) (first : ℕ) (texts : List (List Text)) (rows : S) : Type 0 where
  pub given : Gives is_row can steps left rows (drop first texts)
  pub even : All (λ row. length row ≡ columns) texts
  pub begun : first ≤ length texts
  pub count : length texts < 2 ^ 64

-- the colours of a separator's places
abbrev pub line_colors : HorizontalLine ANSIStr → HorizontalLine Color
line_colors c = record { main = option_map str_color c.main; intersection = option_map str_color c.intersection; left = option_map str_color c.left; right = option_map str_color c.right }

-- ---- the parts of a line

-- the glyph between a column and the one before it
unfoldable pub inner_glyph : CompactTable → ℕ → Text
inner_glyph t x = if x == 0 then [] else between_cells t.config

-- what a column adds to a text line, and to a padding line
unfoldable pub text_column : CompactTable → ℕ → ℕ → Text
text_column t r x = inner_glyph t x ++ compact_cell t r x

unfoldable pub padding_column : CompactTable → Color → ℕ → Text
padding_column t color x = inner_glyph t x ++ compact_indent 32 (t.width x) color

-- what a column adds to a separator: the crossing before it, and its horizontal
unfoldable pub column_parts : CompactTable → HorizontalLine ℕ → HorizontalLine Color → ℕ → List Part
column_parts t g c x = (if x == 0 then [] else part_if g.intersection c.intersection) ++ main_part g.main c.main (t.width x)

-- the separator between two rows
abbrev pub inner_separator : CompactTable → Text
inner_separator t = separator_row t (inner_line t.config.borders) (inner_line t.config.borders_color)

-- the line between two rows, where it is there
abbrev pub lines_between : CompactTable → List Text
lines_between t = line_if (has_inner_horizontal t.config.borders) (inner_separator t)

-- a text is that of the separator above each row after the first one
abbrev pub IsInnerSeparator : CompactTable → Text → Type 0
IsInnerSeparator t = IsSeparatorOf (λ (r : ℕ). 0 < r) (λ r. inner_separator t)

-- the lines of a row, without the separator above it
unfoldable pub lines_of_row : CompactTable → ℕ → List Text
lines_of_row t r =
    replicate t.config.padding.top.size (padding_row t t.config.padding_color.top)
    ++ (text_row t r ∷ replicate t.config.padding.bottom.size (padding_row t t.config.padding_color.bottom))

-- the lines above the rows, and below them
unfoldable pub head_lines : CompactTable → List Text
head_lines t =
    compact_margin t t.config.margin.top t.config.margin_color.top
    ++ line_if (has_top t.config.borders) (separator_row t (top_line t.config.borders) (top_line t.config.borders_color))

unfoldable pub foot_lines : CompactTable → List Text
foot_lines t =
    line_if (has_bottom t.config.borders) (separator_row t (bottom_line t.config.borders) (bottom_line t.config.borders_color))
    ++ compact_margin t t.config.margin.bottom t.config.margin_color.bottom
