-- What contracts see of a printer of rows, the lines that each of its calls appends, and its state after the call.
use Rattle.std.specs.Prelude.{ℕ, ◌+◌, max, Bool, true, false, ◌==◌, nat_le, List, [], ◌∷◌, ◌++◌, map, length, slice_index_or, replicate, Option, Some, None, unwrap_or, if◌then◌else◌}
use Rattle.pg_layout.specs.declared.position.Position.{Position}
use Rattle.pg_layout.specs.Text.{Text, greatest}
use Rattle.pg_layout.specs.Colors.{Color}
use Rattle.pg_config.specs.Config.{Config, has_horizontal}
use Rattle.pg_config.specs.Spans.{Span}
use Rattle.pg_picture.specs.Marks.{sep, only_if, marks_of_row}
use Rattle.pg_picture.specs.Table.{Table, Hint, Known, Unknown}
use Rattle.pg_picture.specs.Picture.{top_lines, bottom_lines, body_lines}
use Rattle.pg_picture.specs.Pieces.{continued}
use Rattle.pg_stream.specs.Open.{Slot, slot_text, open_before}

-- ---- a printer of rows

-- The table as it was told, of which no row and no text is known; the number of its rows, where that is known; and
-- how many rows and lines of the body are printed, whether the last row is among them, and what is open, a slot for
-- each column.
pub record Printing : Type 0 where
  pub table : Table
  pub hint : Option ℕ
  pub rows : ℕ
  pub lines : ℕ
  pub is_ended : Bool
  pub slots : List (Option Slot)

-- where the number of rows is known, so is that of the body's lines
abbrev pub hint_of : Option ℕ → Hint
hint_of None = Unknown
hint_of (Some m) = Known

-- ---- the table that it prints, as far as it is known at a row

-- where a rectangle ends that begins at or above row k
unfoldable pub row_end : ℕ → Span → ℕ
row_end k s = if nat_le s.0.row k then s.0.row + s.1.rows else 0

-- the greatest of these ends, and one row more than row k has above and with itself
unfoldable pub rows_reached : List Span → ℕ → ℕ
rows_reached spans k = max (k + 2) (greatest (map (row_end k) spans))

-- the number of rows of the table of which the next row is printed
unfoldable pub rows_known : Printing → Bool → ℕ
rows_known s is_last = if is_last then s.rows + 1 else unwrap_or s.hint (rows_reached s.table.config.spans s.rows)

-- row k has the texts of its cells, and what began above it those of the open cells
unfoldable pub text_known : ℕ → List (Option Slot) → List Text → Position → Text
text_known k slots cells p = if p.row == k then slice_index_or cells p.col [] else slot_text (slice_index_or slots p.col None)

-- the table of m rows, of which the next row has these cells
unfoldable pub table_known : Printing → ℕ → List Text → Table
table_known s m cells = record s.table { rows = m; text = text_known s.rows s.slots cells }

-- ---- lines of a picture

-- the lines of row k, where the first of its body lines has index i: below the top margin in row 0
unfoldable pub lines_at : Hint → Table → ℕ → ℕ → List Text
lines_at hint t k i = (if k == 0 then top_lines t else []) ++ body_lines hint t i (marks_of_row t.config t.height k)

-- the lines below the last row
unfoldable pub lines_below : Hint → Table → ℕ → List Text
lines_below hint t i = body_lines hint t i (only_if (has_horizontal t.config t.rows t.rows) (sep t.rows)) ++ bottom_lines t

-- ---- what each call appends

-- how many lines of the picture stand already
unfoldable pub lines_printed : Printing → ℕ
lines_printed s = if s.rows == 0 then 0 else s.table.config.margin.top.size + s.lines

unfoldable pub row_lines : Printing → List Text → Bool → List Text
row_lines s cells is_last = lines_at (hint_of s.hint) (table_known s (rows_known s is_last) cells) s.rows s.lines

unfoldable pub finish_lines : Printing → List Text
finish_lines s = if s.rows == 0 then [] else lines_below (hint_of s.hint) (table_known s s.rows []) s.lines

unfoldable pub row_text : Printing → List Text → Bool → Text
row_text s cells is_last = continued (lines_printed s) (row_lines s cells is_last)

unfoldable pub finish_text : Printing → Text
finish_text s = continued (lines_printed s) (finish_lines s)

-- ---- and the state after it

-- a printer before its first row
unfoldable pub printer : Config → ℕ → (ℕ → ℕ) → (ℕ → ℕ) → (Position → Option Color) → Option ℕ → Printing
printer config columns width height color hint = record {
  table = record { config = config; rows = 0; columns = columns; width = width; height = height; text = λ p. []; color = color };
  hint = hint;
  rows = 0;
  lines = 0;
  is_ended = false;
  slots = replicate columns None;
}

-- a printer after a row of these cells
unfoldable pub after_row : Printing → List Text → Bool → Printing
after_row s cells is_last = record s {
  rows = s.rows + 1;
  lines = s.lines + length (marks_of_row s.table.config s.table.height s.rows);
  is_ended = is_last;
  slots = open_before (table_known s (s.rows + 1) cells) (s.rows + 1);
}

-- ---- all rows

-- the lines of these rows, one below the other, and what `finish` appends
unfoldable pub lines_of_rows : Printing → List (List Text) → List Text
lines_of_rows s [] = finish_lines s
lines_of_rows s (cells ∷ []) = row_lines s cells true ++ finish_lines (after_row s cells true)
lines_of_rows s (cells ∷ next ∷ rows) = row_lines s cells false ++ lines_of_rows (after_row s cells false) (next ∷ rows)

-- their text, call by call
unfoldable pub rows_text : Printing → List (List Text) → Text
rows_text s [] = finish_text s
rows_text s (cells ∷ []) = row_text s cells true ++ finish_text (after_row s cells true)
rows_text s (cells ∷ next ∷ rows) = row_text s cells false ++ rows_text (after_row s cells false) (next ∷ rows)
