-- What was set for single places of the border lines.
use Rattle.std.specs.Prelude.{◌≡◌, ℕ, zero, suc, ◌+◌, ◌-◌, ◌^◌, Bool, ◌&&◌, ◌||◌, ◌==◌, nat_lt, List, [], Option, None, is_some, if◌then◌else◌}
use Rattle.pg_layout.specs.declared.borders.Border.{Border}
use Rattle.pg_layout.specs.declared.borders.HorizontalLine.{HorizontalLine}
use Rattle.pg_layout.specs.declared.position.Position.{Position}
use Rattle.pg_layout.specs.declared.position.ColumnPlace.{ColumnPlace}
use Rattle.pg_layout.specs.Borders.{ends}
use Rattle.pg_layout.specs.Keys.{by_number, by_place, by_columns, column_place, in_row, in_column}
use Rattle.pg_layout.specs.Places.{value_at, with_some, has_key}
use Rattle.pg_layout.specs.Position.{at}
use Rattle.pg_config.specs.Settings.{has_some}

-- horizontals and crossings by row and column, verticals by column and row
pub record Overrides (G : Type 0) : Type 0 where
  pub horizontals : List (Position × G)
  pub verticals : List (ColumnPlace × G)
  pub crossings : List (Position × G)

module _ {G : Type 0} where
  -- a crossing of column line c has a value
  abbrev pub has_crossing : ℕ → List (Position × G) → Bool
  has_crossing c es = has_key (λ p. p.col == c) es

  abbrev pub no_overrides : Overrides G
  no_overrides = record { horizontals = []; verticals = []; crossings = [] }

  -- What a border has for places on the line behind line i. There is none behind the greatest number, which no table reaches.
  abbrev pub behind : ℕ → Option G → Option G
  behind i part = if nat_lt i (2 ^ 64 - 1) then part else None

  -- what the border of the cell at p has for places on lines that there are
  abbrev pub on_lines : Position → Border G → Border G
  on_lines p b = record b {
    bottom = behind p.row b.bottom;
    right = behind p.col b.right;
    top_right = behind p.col b.top_right;
    bottom_left = behind p.row b.bottom_left;
    bottom_right = behind p.row (behind p.col b.bottom_right);
  }

  -- The eight places round the cell at p, with the lines below it and right of it, get what a border has for them. A value that it lacks leaves its place as it was.
  abbrev pub with_round : Position → ℕ → ℕ → Border G → Overrides G → Overrides G
  with_round p below right b o = record {
    horizontals = with_some by_place (at below p.col) b.bottom (with_some by_place p b.top o.horizontals);
    verticals = with_some by_columns (column_place (at p.row right)) b.right (with_some by_columns (column_place p) b.left o.verticals);
    crossings = with_some by_place (at below right) b.bottom_right
        (with_some by_place (at below p.col) b.bottom_left (with_some by_place (at p.row right) b.top_right (with_some by_place p b.top_left o.crossings)));
  }

  -- The border of the cell at p overrides the places round it, as far as they stand on lines that there are.
  unfoldable pub with_border : Position → Border G → Overrides G → Overrides G
  with_border p b o = with_round p (p.row + 1) (p.col + 1) (on_lines p b) o

  -- The first n places of row r get these values, by column. A value that is missing leaves its place as it was.
  abbrev pub with_row : ℕ → ℕ → (ℕ → Option G) → List (Position × G) → List (Position × G)
  with_row r zero values es = es
  with_row r (suc c) values es = with_some by_place (at r c) (values c) (with_row r c values es)

  -- what a line of so many columns has at its crossing c: an end, or what stands between two columns
  abbrev pub line_crossing : HorizontalLine G → ℕ → ℕ → Option G
  line_crossing line columns c = ends line.left line.intersection line.right c columns

  -- a glyph of a line of so many columns has a place there
  abbrev pub has_glyph : ℕ → HorizontalLine G → Bool
  has_glyph columns line = nat_lt 0 columns && ((is_some line.main || (is_some line.left || is_some line.right)) || (nat_lt 1 columns && is_some line.intersection))

  -- Row line r of so many columns is this line: its horizontals, and its crossings, which are one more. Of no columns it is none.
  unfoldable pub with_row_line : ℕ → ℕ → HorizontalLine G → Overrides G → Overrides G
  with_row_line r columns line o = if columns == 0 then o else record o {
    horizontals = with_row r columns (λ c. line.main) o.horizontals;
    crossings = with_row r (columns + 1) (λ c. line_crossing line columns c) o.crossings;
  }

  -- the keys of the index are the columns of the crossings
  abbrev pub HasColumns : List (ℕ × Unit {0}) → List (Position × G) → Type 0
  HasColumns columns crossings = (c : ℕ) → is_some (value_at by_number c columns) ≡ has_crossing c crossings

  -- what a place was overridden with
  unfoldable pub horizontal_override : Overrides G → Position → Option G
  horizontal_override o p = value_at by_place p o.horizontals

  unfoldable pub vertical_override : Overrides G → Position → Option G
  vertical_override o p = value_at by_columns (column_place p) o.verticals

  unfoldable pub crossing_override : Overrides G → Position → Option G
  crossing_override o p = value_at by_place p o.crossings

  -- a horizontal place or a crossing is overridden
  abbrev pub sets_rows : Overrides G → Bool
  sets_rows o = has_some o.horizontals || has_some o.crossings

  -- a vertical place or a crossing is overridden
  abbrev pub sets_columns : Overrides G → Bool
  sets_columns o = has_some o.verticals || has_some o.crossings

  -- a horizontal place or a crossing of row line r is overridden
  unfoldable pub overrides_row : Overrides G → ℕ → Bool
  overrides_row o r = has_key (in_row r) o.horizontals || has_key (in_row r) o.crossings

  -- a vertical place or a crossing of column line c is overridden
  unfoldable pub overrides_column : Overrides G → ℕ → Bool
  overrides_column o c = has_key (in_column c) o.verticals || has_crossing c o.crossings

-- the overrides, and an index of the columns of their crossings
pub record Lines (G : Type 0) : Type 0 where
  pub overrides : Overrides G
  pub columns : List (ℕ × Unit {0})

abbrev pub no_lines : {G : Type 0} → Lines G
no_lines = record { overrides = no_overrides; columns = [] }
