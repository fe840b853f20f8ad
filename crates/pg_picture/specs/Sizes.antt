-- Sizes of a table, as numbers that may not fit; and tables of which no colour is known.
use Rattle.std.specs.Prelude.{ℕ, ◌+◌, ◌^◌, nat_lt, List, [], filter, length, Option, Some, None, Result, Ok, Err, if◌then◌else◌}
use Rattle.pg_layout.specs.declared.position.Position.{Position}
use Rattle.pg_layout.specs.Text.{Text}
use Rattle.pg_layout.specs.Records.{text_at}
use Rattle.pg_config.specs.Config.{Config}
use Rattle.pg_config.specs.Spans.{rect_rows}
use Rattle.pg_picture.specs.Marks.{marks_above, stands_within}
use Rattle.pg_picture.specs.Table.{Table}
use Rattle.pg_picture.specs.declared.fits.Misfit.{Misfit}

-- a number, where it is one of 64 bits
abbrev pub if_fits : ℕ → Option ℕ
if_fits n = if nat_lt n (2 ^ 64) then Some n else None

-- a table of empty texts without colours
abbrev pub sized : Config → (ℕ → ℕ) → (ℕ → ℕ) → ℕ → ℕ → Table
sized config width height rows columns = record {
  config = config;
  rows = rows;
  columns = columns;
  width = width;
  height = height;
  text = λ p. [];
  color = λ p. None;
}

-- the table of these texts, of so many columns, without colours
abbrev pub table_of : Config → (ℕ → ℕ) → (ℕ → ℕ) → List (List Text) → ℕ → Table
table_of config width height texts columns = record {
  config = config;
  rows = length texts;
  columns = columns;
  width = width;
  height = height;
  text = text_at texts;
  color = λ p. None;
}

-- how many lines the rectangle of p has in each table that it ends in
unfoldable pub height_of_rect : Config → (ℕ → ℕ) → Position → ℕ
height_of_rect config height p =
    length (filter (stands_within p.row (p.row + rect_rows config.spans p)) (marks_above config height (p.row + rect_rows config.spans p)))

-- no misfit is a success
abbrev pub unless_misfit : Option Misfit → Result (Unit {0}) Misfit
unless_misfit None = Ok tt
unless_misfit (Some m) = Err m
