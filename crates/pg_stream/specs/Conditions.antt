-- The conditions of a printer of rows, and the rows that it is given.
use Rattle.std.specs.Prelude.{◌≡◌, ℕ, ◌+◌, ◌-◌, ◌^◌, ◌<◌, Bool, true, false, not, ◌&&◌, ◌==◌, nat_lt, List, [], ◌∷◌, length, slice_index_or, Option, Some, None, IfSome, ⊤, if◌then◌else◌}
use Rattle.pg_layout.specs.declared.position.Position.{Position}
use Rattle.pg_layout.specs.Position.{at, is_at}
use Rattle.pg_layout.specs.Records.{AlwaysGives}
use Rattle.pg_layout.specs.Text.{Text}
use Rattle.pg_config.specs.Spans.{rect_rows, owner}
use Rattle.pg_picture.specs.Fits.{spans_fit, spans_fit_columns, totals_fit, cell_fits}
use Rattle.pg_picture.specs.declared.fits.Misfit.{Misfit}
use Rattle.pg_picture.specs.declared.fits.Misfit.TheVariants.{Spans, Totals}
use Rattle.pg_picture.specs.Marks.{marks_of_row}
use Rattle.pg_picture.specs.Pieces.{style_at}
use Rattle.pg_picture.specs.Sizes.{height_of_rect}
use Rattle.pg_picture.specs.Table.{Table, rect_width, full_width}
use Rattle.pg_stream.specs.Printing.{Printing, after_row}

-- The rectangle that begins at p has an end, a width and a height that are numbers of 64 bits, and its text has room
-- there.
pub record HasRoom (t : Table) (p : Position) (text : Text) : Type 0 where
  pub end : p.row + rect_rows t.config.spans p < 2 ^ 64
  pub width : rect_width t p < 2 ^ 64
  pub height : height_of_rect t.config t.height p < 2 ^ 64
  pub room : cell_fits (style_at t.config p) text (rect_width t p) (height_of_rect t.config t.height p) ≡ true

-- each cell of row k that is its own owner has room for its text
abbrev pub HaveRoom : Table → ℕ → List Text → Type 0
HaveRoom t k texts = (c : ℕ) → c < t.columns → is_at (owner t.config.spans k c) k c ≡ true → HasRoom t (at k c) (slice_index_or texts c [])

-- What a table may be printed with, row by row: a column at least, spans that fit the columns, and a total width that
-- is a number of 64 bits; and where the number of rows is known, spans and totals that fit them.
pub record PrinterFits (s : Printing) : Type 0 where
  pub some : 0 < s.table.columns
  pub few : s.table.columns < 2 ^ 64 - 1
  pub spans : spans_fit_columns s.table.config.spans s.table.columns ≡ true
  pub width : full_width s.table < 2 ^ 64
  pub hint : IfSome s.hint (λ rows. (spans_fit s.table.config.spans rows s.table.columns ≡ true) × (totals_fit (record s.table { rows = rows }) ≡ true))

-- what doesn't fit in a table of so many rows, where that number is known
abbrev pub rows_misfit : Printing → Option ℕ → Option Misfit
rows_misfit s None = None
rows_misfit s (Some rows) =
    if not (spans_fit s.table.config.spans rows s.table.columns) then Some Spans
    else if not (totals_fit (record s.table { rows = rows })) then Some Totals
    else None

-- The first thing that keeps a printer from being made: a number of columns that can't be used, spans that don't fit
-- the columns, their total width, and then what is known of the whole table.
unfoldable pub printer_misfit : Printing → Option Misfit
printer_misfit s =
    if not (nat_lt 0 s.table.columns && nat_lt s.table.columns (2 ^ 64 - 1)) then Some Totals
    else if not (spans_fit_columns s.table.config.spans s.table.columns) then Some Spans
    else if not (nat_lt (full_width s.table) (2 ^ 64)) then Some Totals
    else rows_misfit s s.hint

-- A row that may be printed next: as many cells as there are columns, and room for each that begins here; no last row
-- before it, and no more rows than are known; spans that end with the last row; and lines that can be counted.
pub record RowFits (s : Printing) (cells : List Text) (is_last : Bool) : Type 0 where
  pub whole : length cells ≡ s.table.columns
  pub goes_on : s.is_ended ≡ false
  pub rows : s.rows < 2 ^ 64 - 2
  pub hint : IfSome s.hint (λ rows. (s.rows < rows) × (is_last ≡ ((s.rows + 1) == rows)))
  pub spans : is_last ≡ true → spans_fit s.table.config.spans (s.rows + 1) s.table.columns ≡ true
  pub rooms : HaveRoom s.table s.rows cells
  pub lines : s.lines + length (marks_of_row s.table.config s.table.height s.rows) < 2 ^ 64

-- Rows that may be printed one after another, of which the last one is the table's last.
abbrev pub RowsFit : Printing → List (List Text) → Type 0
RowsFit s [] = ⊤
RowsFit s (cells ∷ []) = RowFits s cells true
RowsFit s (cells ∷ next ∷ rows) = RowFits s cells false × RowsFit (after_row s cells false) (next ∷ rows)

-- a row that was taken stands for these cells, and an iterator gives the rows behind it
pub record AreRowsFrom {S A : Type 0} (is_row : A → List Text → Type 0) (steps : S → Option A → S → Type 0) (row : A) (rows : S) (cells : List Text) (texts : List (List Text)) : Type 0 where
  pub first : is_row row cells
  pub others : AlwaysGives is_row steps rows texts
