-- Whether a table shows each line of its texts, as a test.
use Rattle.std.specs.Prelude.{ℕ, Bool, not, ◌||◌, ◌==◌, ◌++◌, codes, decimal, List, length, find, Option, Some, None, Result, Ok, Err, if◌then◌else◌}
use Rattle.std.specs.Option.{option_map}
use Rattle.pg_layout.specs.declared.position.Position.{Position}
use Rattle.pg_layout.specs.Position.{is_at}
use Rattle.pg_layout.specs.Records.{text_at}
use Rattle.pg_layout.specs.Text.{Text, lines_of}
use Rattle.pg_config.specs.CompactConfig.{CompactSettings}
use Rattle.pg_config.specs.Spans.{owner}
use Rattle.pg_picture.specs.Pieces.{Style, style_at, shown, text_height}
use Rattle.pg_picture.specs.Table.{Table, rect_height}
use Rattle.pg_picture.specs.CompactLines.{CompactTable}
use Rattle.pg_picture.specs.Fits.{places, misfit_of, misfit_text, compact_misfit_of}
use Rattle.pg_picture.specs.declared.fits.Misfit as misfit
use Rattle.pg_picture.specs.declared.shown.Unshown.{Unshown}
use Rattle.pg_picture.specs.declared.shown.Unshown.TheVariants.{Misfit, Lines}

-- the words for it
abbrev pub unshown_text : Unshown → Text
unshown_text (Misfit misfit) = codes "does not fit: " ++ misfit_text misfit
unshown_text (Lines row col) = codes "lines are not shown: cell " ++ (decimal row ++ (codes " " ++ decimal col))

-- the block of a cell of height h has as many text lines as the text has lines to show
unfoldable pub cell_shows_all : Style → Text → ℕ → Bool
cell_shows_all style text h = text_height style text h == length (shown style.formatting text)

-- a place that owns itself shows each of its lines
unfoldable pub owner_shows_all : Table → Position → Bool
owner_shows_all t p =
    not (is_at (owner t.config.spans p.row p.col) p.row p.col)
    || cell_shows_all (style_at t.config p) (t.text p) (rect_height t p)

-- what doesn't fit comes before a cell whose lines aren't all shown
abbrev pub misfit_or_cell : Option misfit.Misfit → Option Position → Option Unshown
misfit_or_cell (Some m) cell = Some (Misfit m)
misfit_or_cell None cell = option_map (λ (p : Position). Lines p.row p.col) cell

-- the first thing that doesn't fit; in a table that fits the first owner of which some line isn't shown, row by row
unfoldable pub unshown_of : Table → Option Unshown
unshown_of t =
    if (t.rows == 0) || (t.columns == 0) then None
    else misfit_or_cell (misfit_of t) (find (λ p. not (owner_shows_all t p)) (places t.rows t.columns))

-- a text of which a compact table shows each line: it has one
abbrev pub is_one_line : Text → Bool
is_one_line text = length (lines_of text) == 1

-- the same for a compact table: what doesn't fit, then the first cell whose text has more lines than one
unfoldable pub compact_unshown_of : CompactTable → Option Unshown
compact_unshown_of t =
    if (t.rows == 0) || (t.columns == 0) then None
    else misfit_or_cell (compact_misfit_of t) (find (λ p. not (is_one_line (t.text p))) (places t.rows t.columns))

-- the compact table of these texts, of so many columns, without colours
abbrev pub compact_table_of : CompactSettings → (ℕ → ℕ) → List (List Text) → ℕ → CompactTable
compact_table_of config width texts columns = record {
  config = config;
  rows = length texts;
  columns = columns;
  width = width;
  text = text_at texts;
  color = λ p. None;
}

-- nothing that isn't shown is a success
abbrev pub unless_unshown : Option Unshown → Result (Unit {0}) Unshown
unless_unshown None = Ok tt
unless_unshown (Some u) = Err u
