-- Tables without spans, tables that fit, tables that show each line, and cells that have room.
use Rattle.std.proofs.Common.{◌≡◌, ℕ, zero, suc, ◌+◌, ◌-◌, ◌<◌, true, false, ◌&&◌, ◌==◌, nat_lt, List, [], ◌++◌, map, length, refl, ap, ◌∙◌, arith, zero-add, append-nil, one-add, Bool, not, ◌||◌, sym, rules, tests, Option, None, Some, Ok, IsOk, find, inl, inr, ◌^◌, ◌≤◌, cond, ◌∷◌, sum_by, subst, unwrap_or, is_some, if◌then◌else◌, nat_le, min}
use Rattle.std.specs.List.{range_with_len, list_all}
use Rattle.std.proofs.lemmas.List.FromFn.{length-map-range_with_len}
use Rattle.std.proofs.lemmas.Bool.Decides.{nat_tests}
use Rattle.pg_layout.specs.declared.position.Position.{Position}
use Rattle.pg_layout.specs.Position.{at, is_at}
use Rattle.pg_config.specs.Config.{get_horizontal, Config, has_equal_row_lines, has_horizontal, has_vertical, count_vertical}
use Rattle.pg_config.specs.Spans.{size_of, rect_rows, rect_columns, owner, is_left, same_owner, begins_above, Span, span_size}
use Rattle.pg_picture.specs.Marks.{Mark, line, place_of}
use Rattle.pg_picture.specs.Table.{Table, rect_marks, rect_height, rect_width, block_at, row_part, vertical, is_inside, is_covered, crossing, crossing_at, column_items, horizontal_items, is_empty, full_width, total_width, table_body}
use Rattle.pg_picture.specs.Plain.{cell_line}
use Rattle.pg_picture.proofs.MarksOfRectangles.{marks_within-run, run_of, row_lines, rows_from, rect_height-le, rect_height-of_rect}
use Rattle.std.proofs.lemmas.Bool.{and_parts, false≢true, or_parts, cases_Bool}
use Rattle.pg_layout.specs.Borders.{has_top, has_bottom, has_inner_horizontal, has_side}
use Rattle.pg_config.specs.Overrides.{sets_rows, overrides_row}
use Rattle.pg_config.proofs.EqualLines.{nothing}
use Rattle.pg_picture.specs.Inside.{may_have_row_lines}
use Rattle.std.specs.Borrow.{Bor}
use Rattle.pg_layout.specs.Colors.{Color}
use Rattle.pg_layout.specs.Text.{Text, lines_of, without_blank_ends}
use Rattle.pg_picture.specs.Sizes.{table_of, unless_misfit, height_of_rect, if_fits, sized}
use Rattle.pg_picture.specs.declared.fits.Misfit.{Misfit}
use Rattle.pg_picture.specs.Fits.{misfit_of, totals_fit, owner_fits, body_height, places, compact_misfit_of, span_fits, spans_fit, cell_fits}
use Rattle.pg_picture.specs.Grids.{table_of_parts}
use Rattle.pg_picture.specs.CompactLines.{CompactTable, compact_width, compact_full_width}
use Rattle.pg_picture.specs.declared.shown.Unshown.{Unshown}
use Rattle.pg_picture.specs.Shown.{owner_shows_all, unshown_of, compact_unshown_of, misfit_or_cell, unless_unshown, is_one_line, cell_shows_all}
use Rattle.pg_config.specs.declared.spans.SpanSize.{SpanSize}
use Rattle.pg_layout.specs.declared.position.ColumnPlace.{ColumnPlace}
use Rattle.pg_layout.specs.Keys.{by_columns, column_place}
use Rattle.pg_layout.specs.Places.{same, value_at}
use Rattle.pg_picture.specs.Pieces.{style_at, Style, trimmed_if, kept_lines, shown, text_height, widest}
use Rattle.pg_picture.proofs.Ranges.{sum_by-part_le, if_fits-below, sum_by-range_le}
use Rattle.std.proofs.lemmas.List.{length-map}
use Rattle.pg_layout.specs.declared.alignment.Formatting.{Formatting}

-- ---- tables without spans, and tables without row lines

-- ---- without spans each place is its own owner, and a line's place in its cell is its number

-- the index of line i among the lines of its row
place_in_lines : (r a n i : ℕ) → i < n → place_of (line r (a + i)) (map (line r) (range_with_len a n)) ≡ i
unfolding place_of
place_in_lines r a zero i h = absurd (omega arith)
place_in_lines r a (suc n) zero h = let e : ((r == r) && (a + 0 == a)) ≡ true = grind (arith, nat_tests) in rw e
place_in_lines r a (suc n) (suc i) h =
    let e : ((r == r) && (a + suc i == a)) ≡ false = grind (arith, nat_tests) in
    let f : (a + 1) + i ≡ a + suc i = omega arith in
    rw e (rw one-add (ap suc (rw f at (place_in_lines r (a + 1) n i (omega arith)))))

place_in_row : (r n i : ℕ) → i < n → place_of (line r i) (map (line r) (range_with_len 0 n)) ≡ i
place_in_row r n i h = rw zero-add at (place_in_lines r 0 n i h)

-- a rectangle of one row has that row's lines
rect_marks-one_row : (t : Table) (p : Position) → rect_rows t.config.spans p ≡ 1 → p.row < t.rows → rect_marks t p ≡ map (line p.row) (range_with_len 0 (t.height p.row))
unfolding rect_marks run_of row_lines rows_from
rect_marks-one_row t p one h = rw one (let e = marks_within-run t.config t.height p.row 0 t.rows (omega arith) in e ∙ append-nil (map (line p.row) (range_with_len 0 (t.height p.row))))

pub rect_height-one_row : (t : Table) (p : Position) → rect_rows t.config.spans p ≡ 1 → p.row < t.rows → rect_height t p ≡ t.height p.row
unfolding rect_height
rect_height-one_row t p one h = ap (λ (l : List Mark). length l) (rect_marks-one_row t p one h) ∙ length-map-range_with_len (line p.row) 0 (t.height p.row)

module _ (t : Table) (none : t.config.spans ≡ []) where
  pub owner_plain : (r c : ℕ) → owner t.config.spans r c ≡ at r c
  unfolding owner
  owner_plain r c = rw none refl

  pub rect_rows_plain : (p : Position) → rect_rows t.config.spans p ≡ 1
  unfolding rect_rows size_of
  rect_rows_plain p = rw none refl

  rect_columns_plain : (p : Position) → rect_columns t.config.spans p ≡ 1
  unfolding rect_columns size_of
  rect_columns_plain p = rw none refl

  pub rect_width_plain : (p : Position) → rect_width t p ≡ t.width p.col
  unfolding rect_width
  rect_width_plain p = rw (rect_columns_plain p) (omega arith)

  rect_marks_plain : (p : Position) → p.row < t.rows → rect_marks t p ≡ map (line p.row) (range_with_len 0 (t.height p.row))
  rect_marks_plain p h = rect_marks-one_row t p (rect_rows_plain p) h

  pub rect_height_plain : (p : Position) → p.row < t.rows → rect_height t p ≡ t.height p.row
  rect_height_plain p h = rect_height-one_row t p (rect_rows_plain p) h

  -- line i of a row is line i of each of its cells
  place_plain : (r x i : ℕ) → r < t.rows → i < t.height r → place_of (line r i) (rect_marks t (at r x)) ≡ i
  place_plain r x i h k = rw (rect_marks_plain (at r x) h) (place_in_row r (t.height r) i k)

  pub block_at_plain : (r x i : ℕ) → r < t.rows → i < t.height r → block_at t (at r x) (line r i) ≡ cell_line t r x i
  unfolding block_at
  block_at_plain r x i h k = rw (rect_width_plain (at r x), rect_height_plain (at r x) h, place_plain r x i h k)

  inside_plain : (r x : ℕ) → is_inside t r x ≡ false
  unfolding is_inside same_owner
  inside_plain r x = rw (owner_plain r x, owner_plain r (x - 1)) (grind (arith, nat_tests))

  left_plain : (r x : ℕ) → is_left t.config.spans r x ≡ true
  unfolding is_left
  left_plain r x = rw (owner_plain r x) (grind (arith, nat_tests))

  pub covered_plain : (r x : ℕ) → is_covered t r x ≡ false
  unfolding is_covered begins_above
  covered_plain r x = rw (owner_plain r x) (grind (arith, nat_tests))

  -- column x adds its vertical and its cell's line
  pub row_part_plain : (r i x : ℕ) → r < t.rows → i < t.height r → x < t.columns → row_part t r i x ≡ vertical t r i x ++ cell_line t r x i
  unfolding row_part
  row_part_plain r i x h k l =
      let e : nat_lt x t.columns ≡ true = grind (arith, nat_tests) in
      rw (inside_plain r x, e, left_plain r x, owner_plain r x) (ap (λ l. vertical t r i x ++ l) (block_at_plain r x i h k))

  -- after the last column stands the last vertical alone
  pub row_part_plain_end : (r i : ℕ) → row_part t r i t.columns ≡ vertical t r i t.columns
  unfolding row_part
  row_part_plain_end r i =
      let e : nat_lt t.columns t.columns ≡ false = grind (arith, nat_tests) in
      rw (inside_plain r t.columns, e) (append-nil (vertical t r i t.columns))

  -- no rectangle goes through a separator
  pub crossing_plain : (r x : ℕ) → crossing t r x ≡ crossing_at t.config t.rows t.columns (at r x)
  unfolding crossing
  crossing_plain r x = rw (inside_plain r x) refl

  pub column_items_plain : (r x : ℕ) → x < t.columns → column_items t r x ≡ horizontal_items t r x (get_horizontal t.config (at r x) t.rows)
  unfolding column_items
  column_items_plain r x l = let e : nat_lt x t.columns ≡ true = grind (arith, nat_tests) in rw (covered_plain r x, e) refl

  pub column_items_plain_end : (r : ℕ) → column_items t r t.columns ≡ []
  unfolding column_items
  column_items_plain_end r = let e : nat_lt t.columns t.columns ≡ false = grind (arith, nat_tests) in rw (covered_plain r t.columns, e) refl

-- ---- where no row line may be there, none is

pub not-false : (b : Bool) → not b ≡ false → b ≡ true
not-false true h = refl
not-false false h = absurd (false≢true (sym h))

module _ (config : Config) (none : may_have_row_lines config ≡ false) where
  no-lines : (((has_top config.borders || has_bottom config.borders) || has_inner_horizontal config.borders) ≡ false) × (not (has_equal_row_lines config) ≡ false)
  unfolding may_have_row_lines
  no-lines = or_parts ((has_top config.borders || has_bottom config.borders) || has_inner_horizontal config.borders) (not (has_equal_row_lines config)) none

  no-sides : (has_top config.borders ≡ false) × (has_bottom config.borders ≡ false) × (has_inner_horizontal config.borders ≡ false)
  no-sides =
      let inner = or_parts (has_top config.borders || has_bottom config.borders) (has_inner_horizontal config.borders) no-lines.0 in
      let outer = or_parts (has_top config.borders) (has_bottom config.borders) inner.0 in
      (outer.0, outer.1, inner.1)

  no-sets : not (sets_rows config.overrides) ≡ true
  unfolding has_equal_row_lines
  no-sets = (and_parts _ _ (and_parts _ _ (not-false (has_equal_row_lines config) no-lines.1)).0).0

  -- no place of a row line was overridden
  no-overrides : (config.overrides.horizontals ≡ []) × (config.overrides.crossings ≡ [])
  no-overrides = nothing config.overrides.horizontals config.overrides.crossings no-sets

  pub no_row_line : (r rows : ℕ) → has_horizontal config r rows ≡ false
  unfolding has_horizontal has_side overrides_row
  no_row_line r rows = rw (no-sides.0, no-sides.1, no-sides.2, no-overrides.0, no-overrides.1) (grind (arith, nat_tests))

-- ---- tables that fit, tables that show each line, and cells that have room

-- ---- whether a table fits has nothing to do with its colours

pub misfit-any_colors : (t : Table) (colors : Position → Option Color) → misfit_of (record t { color = colors }) ≡ misfit_of t
unfolding misfit_of totals_fit owner_fits body_height full_width total_width rect_width rect_height rect_marks table_body
misfit-any_colors t colors = refl

-- a grid of these parts fits where the table of them does, whatever its colours are
pub misfit-parts : {R D C : Type 0} (texts : R → List (List Text)) (columns : R → ℕ) (width height : D → ℕ → ℕ) (color : C → Position → Option Color)
    {parts : R × Bor Config × D × C} {records : R} {config : Bor Config} {dimension : D} {colors : C}
    → parts ≡ (records, config, dimension, colors)
    → misfit_of (table_of config.now (width dimension) (height dimension) (texts records) (columns records)) ≡ None
    → misfit_of (table_of_parts texts columns width height color parts.0 parts.1.now parts.2 parts.3) ≡ None
misfit-parts {R} {D} {C} texts columns width height color {parts} {records} {config} {dimension} {colors} is fits =
    ap (λ (p : R × Bor Config × D × C). misfit_of (record (table_of p.1.now (width p.2) (height p.2) (texts p.0) (columns p.0)) { color = color p.3 })) is
    ∙ misfit-any_colors (table_of config.now (width dimension) (height dimension) (texts records) (columns records)) (color colors)
    ∙ fits

-- a table without cells has no misfit
pub misfit-empty : (t : Table) → is_empty t ≡ true → misfit_of t ≡ None
unfolding misfit_of
misfit-empty t empty = rw empty refl

-- what was found to fit has no misfit
pub none-of-ok : (m : Option Misfit) {u : Unit {0}} → unless_misfit m ≡ Ok u → m ≡ None
none-of-ok None is = refl
none-of-ok (Some m) is = search (rules, tests)

-- the same of a test that succeeded
pub none-if-ok : (m : Option Misfit) → IsOk (unless_misfit m) → m ≡ None
none-if-ok None ok = refl
none-if-ok (Some m) ok = absurd (false≢true ok)

-- ---- a grid whose table shows all fits; and whether a table shows all has nothing to do with its colours

pub unshown-any_colors : (t : Table) (colors : Position → Option Color) → unshown_of (record t { color = colors }) ≡ unshown_of t
unfolding unshown_of misfit_of totals_fit owner_fits owner_shows_all body_height full_width total_width rect_width rect_height rect_marks table_body
unshown-any_colors t colors = refl

pub compact_unshown-any_colors : (t : CompactTable) (colors : Position → Option Color) → compact_unshown_of (record t { color = colors }) ≡ compact_unshown_of t
unfolding compact_unshown_of compact_misfit_of compact_full_width compact_width
compact_unshown-any_colors t colors = refl

-- a test that succeeded found nothing
pub nothing-if-ok : (u : Option Unshown) → IsOk (unless_unshown u) → u ≡ None
nothing-if-ok None ok = refl
nothing-if-ok (Some u) ok = absurd (false≢true ok)

none-before : (m : Option Misfit) (cell : Option Position) → misfit_or_cell m cell ≡ None → m ≡ None
none-before None cell e = refl
none-before (Some m) cell e = search (rules, tests)

-- a table that shows all fits
pub shown-fits : (t : Table) → unshown_of t ≡ None → misfit_of t ≡ None
unfolding unshown_of
shown-fits t e =
    elim (cases_Bool ((t.rows == 0) || (t.columns == 0))) [
      | inl y ↦ misfit-empty t y
      | inr n ↦ none-before (misfit_of t) (find (λ p. not (owner_shows_all t p)) (places t.rows t.columns)) (rw n at e)
    ]

-- and one with no rows or no columns shows all
pub unshown-empty : (t : Table) → is_empty t ≡ true → unshown_of t ≡ None
unfolding unshown_of
unshown-empty t empty = rw empty refl

pub compact_shown-fits : (t : CompactTable) → ((t.rows == 0) || (t.columns == 0)) ≡ false → compact_unshown_of t ≡ None → compact_misfit_of t ≡ None
unfolding compact_unshown_of
compact_shown-fits t some e = none-before (compact_misfit_of t) (find (λ p. not (is_one_line (t.text p))) (places t.rows t.columns)) (rw some at e)

pub compact_unshown-empty : (t : CompactTable) → ((t.rows == 0) || (t.columns == 0)) ≡ true → compact_unshown_of t ≡ None
unfolding compact_unshown_of
compact_unshown-empty t empty = rw empty refl

-- ---- what a table that fits gives to its callers

-- what the totals are
pub record TotalsFit (t : Table) : Type 0 where
  pub rows : t.rows < 2 ^ 64 - 1
  pub columns : t.columns < 2 ^ 64 - 1
  pub width : full_width t < 2 ^ 64
  pub height : body_height t < 2 ^ 64

pub totals_facts : (t : Table) → totals_fit t ≡ true → TotalsFit t
unfolding totals_fit
totals_facts t h = record {
  rows = grind (arith, nat_tests, h);
  columns = grind (arith, nat_tests, h);
  width = grind (arith, nat_tests, h);
  height = grind (arith, nat_tests, h);
}

-- the heights and the widths up to a row and a column
pub heights_fit : (t : Table) → totals_fit t ≡ true → (r : ℕ) → r < t.rows → sum_by t.height (range_with_len 0 r) + t.height r < 2 ^ 64
unfolding body_height
heights_fit t h r inside = omega (arith, (totals_facts t h).height, sum_by-range_le t.height r t.rows inside)

pub widths_fit : (t : Table) → totals_fit t ≡ true → (c : ℕ) → c < t.columns → sum_by t.width (range_with_len 0 c) + t.width c < 2 ^ 64
unfolding full_width total_width
widths_fit t h c inside = omega (arith, (totals_facts t h).width, sum_by-range_le t.width c t.columns inside)

span_facts : (rows columns : ℕ) (s : Span) → span_fits rows columns s ≡ true → (0 < s.1.rows) × (0 < s.1.columns) × (s.0.col + s.1.columns ≤ columns) × (s.0.row + s.1.rows ≤ rows)
span_facts rows columns s h = (grind (arith, nat_tests, h), grind (arith, nat_tests, h), grind (arith, nat_tests, h), grind (arith, nat_tests, h))

None≢Some : (v : SpanSize) → None ≡ Some v → ⊥
None≢Some v e = false≢true (ap (λ (o : Option SpanSize). is_some o) e)

-- the size that is found is that of a rectangle at the place
found_fits : (rows columns : ℕ) (k : ColumnPlace) (spans : List Span) (v : SpanSize) → list_all (span_fits rows columns) spans ≡ true → value_at by_columns k spans ≡ Some v
    → (0 < v.rows) × (0 < v.columns) × (k.col + v.columns ≤ columns) × (k.row + v.rows ≤ rows)
found_fits rows columns k [] v all e = absurd (None≢Some v e)
found_fits rows columns k (s ∷ ss) v all e =
    let parts = and_parts (span_fits rows columns s) (list_all (span_fits rows columns) ss) all in
    elim (cases_Bool (same by_columns s.0 k)) [
      | inl y ↦
          let f = span_facts rows columns s parts.0 in
          let is : s.1 ≡ v = ap (λ (o : Option SpanSize). unwrap_or o v) (rw y at e) in
          let col : s.0.col ≡ k.col = grind (arith, nat_tests, y) in
          let row : s.0.row ≡ k.row = grind (arith, nat_tests, y) in
          let high : s.1.rows ≡ v.rows = ap (λ (x : SpanSize). x.rows) is in
          let wide : s.1.columns ≡ v.columns = ap (λ (x : SpanSize). x.columns) is in
          (omega (arith, f.0, high), omega (arith, f.1, wide), omega (arith, f.2, wide, col), omega (arith, f.3, high, row))
      | inr n ↦ found_fits rows columns k ss v parts.1 (rw n at e)
    ]

-- the rectangle of a place has a size and ends inside the table
pub record RectInside (spans : List Span) (rows columns : ℕ) (p : Position) : Type 0 where
  pub some_rows : 0 < rect_rows spans p
  pub some_columns : 0 < rect_columns spans p
  pub columns_end : p.col + rect_columns spans p ≤ columns
  pub rows_end : p.row + rect_rows spans p ≤ rows

sized_place : (rows columns : ℕ) (p : Position) (spans : List Span) (o : Option SpanSize) → value_at by_columns (column_place p) spans ≡ o → list_all (span_fits rows columns) spans ≡ true → p.row < rows → p.col < columns
    → (0 < (unwrap_or o (span_size 1 1)).rows) × (0 < (unwrap_or o (span_size 1 1)).columns) × (p.col + (unwrap_or o (span_size 1 1)).columns ≤ columns) × (p.row + (unwrap_or o (span_size 1 1)).rows ≤ rows)
sized_place rows columns p spans None e all h k = (omega arith, omega arith, omega arith, omega arith)
sized_place rows columns p spans (Some v) e all h k = found_fits rows columns (column_place p) spans v all e

pub rect_inside : (spans : List Span) (rows columns : ℕ) (p : Position) → spans_fit spans rows columns ≡ true → p.row < rows → p.col < columns → RectInside spans rows columns p
unfolding spans_fit rect_rows rect_columns size_of
rect_inside spans rows columns p fit h k =
    let f = sized_place rows columns p spans (value_at by_columns (column_place p) spans) refl (and_parts (list_all (span_fits rows columns) spans) _ fit).0 h k in
    record { some_rows = f.0; some_columns = f.1; columns_end = f.2; rows_end = f.3 }

-- a rectangle inside the table is at most as wide as the table
pub rect_width-le : (t : Table) (p : Position) → 0 < rect_columns t.config.spans p → p.col + rect_columns t.config.spans p ≤ t.columns → rect_width t p ≤ full_width t
unfolding rect_width full_width total_width count_vertical
rect_width-le t p h inside =
    let k : ℕ = rect_columns t.config.spans p in
    let f : ℕ → ℕ = λ c. cond (has_vertical t.config c t.columns) 1 0 in
    let widths = sum_by-part_le t.width p.col (rect_columns t.config.spans p) t.columns inside in
    let verticals = sum_by-part_le f (p.col + 1) (rect_columns t.config.spans p - 1) (t.columns + 1) (omega arith) in
    omega (arith, widths, verticals)

pub rect_width_fits : (t : Table) (p : Position) → totals_fit t ≡ true → RectInside t.config.spans t.rows t.columns p → rect_width t p < 2 ^ 64
rect_width_fits t p h r = omega (arith, (totals_facts t h).width, rect_width-le t p r.some_columns r.columns_end)

pub rect_height_fits : (t : Table) (p : Position) → totals_fit t ≡ true → rect_height t p < 2 ^ 64
rect_height_fits t p h = omega (arith, (totals_facts t h).height, rect_height-le t p)

-- where spans and totals fit, the sizes of rectangles are numbers of 64 bits
pub width_answer : (t : Table) (p : Position) → totals_fit t ≡ true → RectInside t.config.spans t.rows t.columns p → if_fits (rect_width t p) ≡ Some (rect_width t p)
width_answer t p h r = if_fits-below (rect_width t p) (rect_width_fits t p h r)

pub height_answer : (t : Table) (p : Position) → totals_fit t ≡ true → RectInside t.config.spans t.rows t.columns p
    → (if nat_lt (p.row + rect_rows t.config.spans p) (2 ^ 64) then if_fits (height_of_rect t.config t.height p) else None) ≡ Some (rect_height t p)
height_answer t p h r =
    let same_height = rect_height-of_rect t p r.some_rows r.rows_end in
    let end : nat_lt (p.row + rect_rows t.config.spans p) (2 ^ 64) ≡ true = grind (arith, nat_tests, r.rows_end, (totals_facts t h).rows) in
    rw end (ap (λ n. if_fits n) (sym same_height) ∙ if_fits-below (rect_height t p) (rect_height_fits t p h))

-- a place that owns itself needs the room of its rectangle
pub owner_fits-own : (t : Table) (p : Position) → is_at (owner t.config.spans p.row p.col) p.row p.col ≡ true → owner_fits t p ≡ cell_fits (style_at t.config p) (t.text p) (rect_width t p) (rect_height t p)
unfolding owner_fits
owner_fits-own t p own = rw own refl

-- a place that is found to be its owner
pub own_from : (spans : List Span) (p q : Position) → q ≡ owner spans p.row p.col → q.row ≡ p.row → q.col ≡ p.col → is_at (owner spans p.row p.col) p.row p.col ≡ true
own_from spans p q e r c =
    let here : is_at q p.row p.col ≡ true = grind (arith, nat_tests, r, c) in
    subst (λ (o : Position). is_at o p.row p.col ≡ true) e here

-- texts and colours don't matter to totals
pub totals_fit-sized : (t : Table) → totals_fit (sized t.config t.width t.height t.rows t.columns) ≡ totals_fit t
unfolding totals_fit full_width total_width body_height
totals_fit-sized t = refl

pub rect_width-sized : (t : Table) (p : Position) → rect_width (sized t.config t.width t.height t.rows t.columns) p ≡ rect_width t p
unfolding rect_width
rect_width-sized t p = refl

pub some_is : (m n : ℕ) → Some m ≡ Some n → m ≡ n
some_is m n e = ap (λ (o : Option ℕ). unwrap_or o 0) e

pub none_is : (n : ℕ) → None ≡ Some n → ⊥
none_is n e = false≢true (ap (λ (o : Option ℕ). is_some o) e)

-- ---- a cell shows each line where it is high enough for as many below its top padding

-- under vertical trim the lines without the blank ends are shown
pub length-shown-trimmed : (f : Formatting) (text : Text) → f.vertical_trim ≡ true → length (without_blank_ends (lines_of text)) ≡ length (shown f text)
unfolding shown kept_lines
length-shown-trimmed f text on = rw on (sym (length-map (without_blank_ends (lines_of text)) (trimmed_if f.horizontal_trim)))

min_is : (m n : ℕ) → nat_le m n ≡ (min m n == m)
min_is m n = grind (arith, nat_tests)

pub cell_shows_all-by_count : (style : Style) (text : Text) (h : ℕ) → nat_le (length (shown style.formatting text)) (h - style.padding.top.size) ≡ cell_shows_all style text h
unfolding cell_shows_all text_height
cell_shows_all-by_count style text h = min_is (length (shown style.formatting text)) (h - style.padding.top.size)

-- ---- what it says that a cell has room

-- a cell with lines has room for its side paddings and its widest line, and for its top padding
pub cell_fits-room : (style : Style) (text : Text) (w h : ℕ) → cell_fits style text w h ≡ true → 0 < h
    → ((style.padding.left.size + style.padding.right.size) + widest style.formatting text ≤ w) × (style.padding.top.size ≤ h)
unfolding cell_fits
cell_fits-room style text w h fits some =
    let e : (h == 0) ≡ false = grind (arith, nat_tests) in
    let wide = nat_le ((style.padding.left.size + style.padding.right.size) + widest style.formatting text) w in
    let high = nat_le style.padding.top.size h in
    let both : (wide && high) ≡ true = rw e at fits in
    let parts = and_parts wide high both in
    (grind (arith, nat_tests, parts.0), grind (arith, nat_tests, parts.1))
