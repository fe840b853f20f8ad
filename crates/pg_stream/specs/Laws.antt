-- Laws of printers of rows, in words of their own.
use Rattle.std.specs.Prelude.{◌≡◌, ℕ, ◌<◌, Bool, true, false, List, [], ◌∷◌, map, IfSome, Option, None}
use Rattle.std.specs.List.{range_with_len}
use Rattle.pg_layout.specs.Colors.{Color}
use Rattle.pg_layout.specs.declared.position.Position.{Position}
use Rattle.pg_layout.specs.Position.{at}
use Rattle.pg_layout.specs.Text.{Text}
use Rattle.pg_config.specs.Config.{Config}
use Rattle.pg_picture.specs.Fits.{spans_fit, misfit_of}
use Rattle.pg_picture.specs.Picture.{picture}
use Rattle.pg_picture.specs.Table.{Table, Unknown}
use Rattle.pg_stream.specs.Conditions.{PrinterFits, RowsFit}
use Rattle.pg_stream.specs.LiveStreams.{live_text}
use Rattle.pg_stream.specs.Printing.{Printing, hint_of, printer, after_row, rows_text}
use Rattle.pg_stream.specs.SizedStreams.{CountsLines, IsNextHeight}

-- the texts of a table, row by row
abbrev pub texts_of : Table → List (List Text)
texts_of t = map (λ r. map (λ c. t.text (at r c)) (range_with_len 0 t.columns)) (range_with_len 0 t.rows)

-- All rows of a table whose spans fit it, printed one after another and ended, are its picture.
abbrev pub RowsMakeThePicture : Type 0
RowsMakeThePicture = (t : Table) (hint : Option ℕ) → IfSome hint (λ rows. rows ≡ t.rows) → spans_fit t.config.spans t.rows t.columns ≡ true
    → 0 < t.rows → 0 < t.columns → rows_text (printer t.config t.columns t.width t.height t.color hint) (texts_of t) ≡ picture (hint_of hint) t

-- The same where no row is told to be the last; margins that end before the last lines are whole then.
abbrev pub LiveRowsMakeThePicture : Type 0
LiveRowsMakeThePicture = (t : Table) → spans_fit t.config.spans t.rows t.columns ≡ true → 0 < t.rows → 0 < t.columns
    → live_text (printer t.config t.columns t.width t.height t.color None) (texts_of t) ≡ picture Unknown t

-- By the heights of its rows, a printer's lines are those of the rows so far: before its first row, and behind each row. So rows
-- that bring the heights of a table are printed as those of that table.
pub record RowsCountTheirLines : Type 0 where
  pub none : (config : Config) (columns : ℕ) (width height : ℕ → ℕ) (color : Position → Option Color) (hint : Option ℕ) → CountsLines (printer config columns width height color hint)
  pub more : (s : Printing) (cells : List Text) (is_last : Bool) → CountsLines s → CountsLines (after_row s cells is_last)

-- By these heights each of the rows may be pushed with its own, one after another, and the table be ended.
abbrev pub AreNextHeights : Printing → List (List Text) → Type 0
AreNextHeights s [] = CountsLines s
AreNextHeights s (cells ∷ rows) = IsNextHeight s (s.table.height s.rows) × AreNextHeights (after_row s cells false) rows

-- All rows of a table, pushed one after another, each with its height, and ended, are its picture: the table's heights make up
-- the lines at each call, and what the calls append by them is that picture.
abbrev pub SizedRowsMakeThePicture : Type 0
SizedRowsMakeThePicture =
    (t : Table) → spans_fit t.config.spans t.rows t.columns ≡ true → 0 < t.rows → 0 < t.columns
    → AreNextHeights (printer t.config t.columns t.width t.height t.color None) (texts_of t)
    × (live_text (printer t.config t.columns t.width t.height t.color None) (texts_of t) ≡ picture Unknown t)

-- A table that fits may be printed row by row.
abbrev pub FittingTablesMayBePrinted : Type 0
FittingTablesMayBePrinted = (t : Table) (hint : Option ℕ) → IfSome hint (λ rows. rows ≡ t.rows) → misfit_of t ≡ None → 0 < t.rows → 0 < t.columns
    → PrinterFits (printer t.config t.columns t.width t.height t.color hint) × RowsFit (printer t.config t.columns t.width t.height t.color hint) (texts_of t)
