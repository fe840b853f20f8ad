-- The conditions of a table, as tests.
use Rattle.std.specs.Prelude.{ℕ, ◌+◌, ◌-◌, ◌^◌, Bool, true, not, ◌&&◌, ◌||◌, ◌==◌, nat_lt, nat_le, List, [], ◌∷◌, ◌++◌, codes, decimal, map, flat_map, find, sum_by, Option, Some, None}
use Rattle.std.specs.Prelude.{if◌then◌else◌, ◌≡◌, ◌<◌}
use Rattle.std.specs.List.{range_with_len, list_all}
use Rattle.std.specs.Option.{option_map}
use Rattle.pg_layout.specs.declared.position.Position.{Position}
use Rattle.pg_layout.specs.Text.{Text}
use Rattle.pg_layout.specs.Position.{at, is_at}
use Rattle.pg_config.specs.Config.{count_horizontal}
use Rattle.pg_config.specs.Spans.{Span, owner}
use Rattle.pg_picture.specs.Pieces.{Style, style_at, widest}
use Rattle.pg_picture.specs.Table.{Table, rect_width, rect_height, full_width}
use Rattle.pg_picture.specs.declared.fits.Misfit.{Misfit}
use Rattle.pg_picture.specs.declared.fits.Misfit.TheVariants.{Spans, Totals, Room}
use Rattle.pg_picture.specs.CompactLines.{CompactTable, compact_full_width}

-- the words for a misfit
abbrev pub misfit_text : Misfit → Text
misfit_text Spans = codes "spans"
misfit_text Totals = codes "totals"
misfit_text (Room row col) = codes "room " ++ (decimal row ++ (codes " " ++ decimal col))

-- no place lies in both rectangles
abbrev pub are_apart : Span → Span → Bool
are_apart s t =
    (nat_le (s.0.row + s.1.rows) t.0.row || nat_le (t.0.row + t.1.rows) s.0.row)
    || (nat_le (s.0.col + s.1.columns) t.0.col || nat_le (t.0.col + t.1.columns) s.0.col)

abbrev pub all_apart : List Span → Bool
all_apart [] = true
all_apart (s ∷ ss) = list_all (are_apart s) ss && all_apart ss

-- both sizes of a rectangle are at least 1, and its columns end inside the table
abbrev pub span_fits_columns : ℕ → Span → Bool
span_fits_columns columns s = (nat_lt 0 s.1.rows && nat_lt 0 s.1.columns) && nat_le (s.0.col + s.1.columns) columns

abbrev pub span_fits : ℕ → ℕ → Span → Bool
span_fits rows columns s = span_fits_columns columns s && nat_le (s.0.row + s.1.rows) rows

-- every rectangle has a size, ends inside the table, and shares no place with another
unfoldable pub spans_fit : List Span → ℕ → ℕ → Bool
spans_fit spans rows columns = list_all (span_fits rows columns) spans && all_apart spans

-- the same without a bound on the rows
unfoldable pub spans_fit_columns : List Span → ℕ → Bool
spans_fit_columns spans columns = list_all (span_fits_columns columns) spans && all_apart spans

-- how many lines the body has
unfoldable pub body_height : Table → ℕ
body_height t = sum_by t.height (range_with_len 0 t.rows) + count_horizontal t.config t.rows

-- the numbers of rows and columns can be counted, and the total width and height are numbers of 64 bits
unfoldable pub totals_fit : Table → Bool
totals_fit t =
    (nat_lt t.rows (2 ^ 64 - 1) && nat_lt t.columns (2 ^ 64 - 1))
    && (nat_lt (full_width t) (2 ^ 64) && nat_lt (body_height t) (2 ^ 64))

-- a cell of so many columns and lines has room for its text; a cell of height 0 needs none
unfoldable pub cell_fits : Style → Text → ℕ → ℕ → Bool
cell_fits style text w h =
    let pad = style.padding in
    (h == 0) || (nat_le ((pad.left.size + pad.right.size) + widest style.formatting text) w && nat_le pad.top.size h)

-- a place that owns itself has room
unfoldable pub owner_fits : Table → Position → Bool
owner_fits t p =
    not (is_at (owner t.config.spans p.row p.col) p.row p.col)
    || cell_fits (style_at t.config p) (t.text p) (rect_width t p) (rect_height t p)

-- the places of a table, row by row
unfoldable pub places : ℕ → ℕ → List Position
places rows columns = flat_map (λ r. map (at r) (range_with_len 0 columns)) (range_with_len 0 rows)

-- the first thing that doesn't fit: spans before totals, totals before room, and room by the first owner without it
unfoldable pub misfit_of : Table → Option Misfit
misfit_of t =
    if (t.rows == 0) || (t.columns == 0) then None
    else if not (spans_fit t.config.spans t.rows t.columns) then Some Spans
    else if not (totals_fit t) then Some Totals
    else option_map (λ (p : Position). Room p.row p.col) (find (λ p. not (owner_fits t p)) (places t.rows t.columns))

-- the same for a compact table: its totals, then the first column whose width is less than its side paddings
unfoldable pub compact_misfit_of : CompactTable → Option Misfit
compact_misfit_of t =
    if t.columns == 0 then None
    else if not (nat_lt t.columns (2 ^ 64 - 1) && nat_lt (compact_full_width t) (2 ^ 64)) then Some Totals
    else option_map (λ c. Room 0 c) (find (λ c. nat_lt (t.width c) (t.config.padding.left.size + t.config.padding.right.size)) (range_with_len 0 t.columns))

-- ---- tables that fit

-- what a table with rows and columns that fits gives
pub record TableFits (t : Table) : Type 0 where
  pub spans : spans_fit t.config.spans t.rows t.columns ≡ true
  pub totals : totals_fit t ≡ true
  pub rooms : (r c : ℕ) → r < t.rows → c < t.columns → owner_fits t (at r c) ≡ true
