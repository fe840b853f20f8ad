-- A stream whose rows bring their heights.
use Rattle.std.specs.Prelude.{◌≡◌, ℕ, Option, Some, length, if◌then◌else◌}
use Rattle.pg_config.specs.Spans.{has_row_spans}
use Rattle.pg_picture.specs.Marks.{marks_above}
use Rattle.pg_picture.specs.declared.fits.Misfit.{Misfit}
use Rattle.pg_picture.specs.declared.fits.Misfit.TheVariants.{Spans}
use Rattle.pg_stream.specs.Conditions.{printer_misfit}
use Rattle.pg_stream.specs.Printing.{Printing}

-- The first thing that keeps a stream of such rows from being made: a cell that spans rows, since the height of its
-- rectangle isn't known when it begins, and then what keeps any printer from being made.
unfoldable pub sized_misfit : Printing → Option Misfit
sized_misfit s = if has_row_spans s.table.config.spans then Some Spans else printer_misfit s

-- By the heights of this printer, the rows so far have the lines so far.
abbrev pub CountsLines : Printing → Type 0
CountsLines s = s.lines ≡ length (marks_above s.table.config s.table.height s.rows)

-- and the next row has this height
pub record IsNextHeight (s : Printing) (height : ℕ) : Type 0 where
  pub above : CountsLines s
  pub next : s.table.height s.rows ≡ height
