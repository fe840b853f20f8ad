-- Whether a row shows each line of its texts.
use Rattle.std.specs.Prelude.{ℕ, Bool, not, ◌||◌, List, [], map, find, slice_index_or, Option, Some, None, Result, Ok, Err}
use Rattle.std.specs.List.{range_with_len}
use Rattle.pg_layout.specs.declared.position.Position.{Position}
use Rattle.pg_layout.specs.Position.{at, is_at}
use Rattle.pg_layout.specs.Text.{Text}
use Rattle.pg_config.specs.Spans.{owner}
use Rattle.pg_picture.specs.Pieces.{style_at}
use Rattle.pg_picture.specs.Shown.{cell_shows_all}
use Rattle.pg_picture.specs.Sizes.{height_of_rect}
use Rattle.pg_picture.specs.Table.{Table}
use Rattle.pg_stream.specs.declared.printer.row_shown.RowUnshown.{RowUnshown}
use Rattle.pg_stream.specs.declared.printer.row_shown.RowUnshown.TheVariants.{Lines}

-- a place of a row of these texts that owns itself shows each line in its rectangle
abbrev pub row_cell_shows_all : Table → List Text → Position → Bool
row_cell_shows_all t texts p =
    not (is_at (owner t.config.spans p.row p.col) p.row p.col)
    || cell_shows_all (style_at t.config p) (slice_index_or texts p.col []) (height_of_rect t.config t.height p)

-- the first place of row k that doesn't
abbrev pub unshown_in_row : Table → ℕ → List Text → Option Position
unshown_in_row t k texts = find (λ p. not (row_cell_shows_all t texts p)) (map (at k) (range_with_len 0 t.columns))

-- where there is none, that is a success
abbrev pub unless_in_row : Option Position → Result (Unit {0}) RowUnshown
unless_in_row None = Ok tt
unless_in_row (Some p) = Err (Lines p.col)
