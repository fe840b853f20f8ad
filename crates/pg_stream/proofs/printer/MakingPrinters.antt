-- What keeps a printer from being made, and the cells that fit and are shown where nothing does.
use Rattle.std.proofs.Common.{◌≡◌, ℕ, ◌+◌, ◌^◌, ◌<◌, ◌≤◌, max, true, nat_lt, List, [], ◌∷◌, refl, sym, ◌∙◌, arith, Option, Some, None, inl, inr, if◌then◌else◌, ◌-◌, ◌==◌, false, not, map, find, ap, subst, ◌↔◌, Bool, ◌&&◌, IfSome, Result, Ok, Err, IsOk, is_ok, is_err, is_some}
use Rattle.std.specs.List.{list_all, range_with_len}
use Rattle.std.proofs.lemmas.Bool.{cases_Bool, and_parts, false≢true}
use Rattle.std.proofs.lemmas.Bool.Decides.{nat_tests}
use Rattle.pg_layout.specs.declared.position.Position.{Position}
use Rattle.pg_layout.specs.Keys.{by_columns}
use Rattle.pg_layout.specs.Places.{IsAscending}
use Rattle.pg_layout.specs.Text.{Text}
use Rattle.pg_config.specs.Spans.{Span, rect_rows, owner, is_left, left_span}
use Rattle.pg_picture.specs.Fits.{all_apart, span_fits, span_fits_columns, spans_fit, spans_fit_columns, cell_fits, totals_fit, body_height}
use Rattle.pg_picture.specs.Pieces.{style_at}
use Rattle.pg_picture.specs.Sizes.{if_fits, sized, height_of_rect, unless_misfit}
use Rattle.pg_picture.specs.Table.{Table, rect_width, full_width, total_width}
use Rattle.pg_picture.proofs.FittingTables.{some_is, none_is}
use Rattle.pg_picture.proofs.OwnersOfPlaces.{InOrder}
use Rattle.pg_stream.specs.Conditions.{HasRoom, PrinterFits, rows_misfit, printer_misfit}
use Rattle.pg_stream.proofs.draw.OpenLists.{width-some, height-some}
use Rattle.pg_layout.specs.Position.{at, is_at}
use Rattle.pg_picture.specs.Inside.{columns_or_one, first_failed, row_places}
use Rattle.pg_picture.proofs.FirstPlaces.{next_places, step-inside, step-other}
use Rattle.pg_stream.specs.ShownRows.{row_cell_shows_all, unshown_in_row}
use Rattle.std.specs.Result.{result_err}
use Rattle.pg_layout.specs.Colors.{Color}
use Rattle.pg_config.specs.Config.{Config}
use Rattle.pg_picture.specs.declared.fits.Misfit.{Misfit}
use Rattle.pg_picture.specs.declared.fits.Misfit.TheVariants.{Spans, Totals}
use Rattle.pg_stream.specs.Printing.{Printing, printer}
use Rattle.pg_stream.specs.declared.fault.StreamFault.{StreamFault}

-- ---- spans that fit the columns of a table fit some number of rows; and the room of a cell by the sizes that were asked

-- ---- spans that fit the columns fit some number of rows

-- the row behind the last one of all rectangles
abbrev pub last_end : List Span → ℕ
last_end [] = 0
last_end (s ∷ ss) = max (s.0.row + s.1.rows) (last_end ss)

fits_by : (rows columns : ℕ) (spans : List Span) → list_all (span_fits_columns columns) spans ≡ true → last_end spans ≤ rows → list_all (span_fits rows columns) spans ≡ true
fits_by rows columns [] fit end = refl
fits_by rows columns (s ∷ ss) fit end =
    let parts = and_parts (span_fits_columns columns s) (list_all (span_fits_columns columns) ss) fit in
    let more = fits_by rows columns ss parts.1 (omega (arith, end)) in
    let inside : s.0.row + s.1.rows ≤ rows = omega (arith, end) in
    let first : span_fits rows columns s ≡ true = grind (arith, nat_tests, parts.0, inside) in
    rw first more

module _ (spans : List Span) (columns : ℕ) (ascending : IsAscending by_columns spans) (fit : spans_fit_columns spans columns ≡ true) where
  -- so a walk along any row meets the owners of its places
  pub in_order : InOrder spans (last_end spans) columns
  unfolding spans_fit spans_fit_columns
  in_order =
      let parts = and_parts (list_all (span_fits_columns columns) spans) (all_apart spans) fit in
      record { ascending = ascending; fit = rw (fits_by (last_end spans) columns spans parts.0 (omega arith)) parts.1 }

-- ---- room by the sizes that were asked

if_fits-some : (n m : ℕ) → if_fits n ≡ Some m → (m ≡ n) × (n < 2 ^ 64)
if_fits-some n m e =
    elim (cases_Bool (nat_lt n (2 ^ 64))) [
      | inl y ↦ (some_is m n (sym (rw y at e)), grind (arith, nat_tests, y))
      | inr k ↦ absurd (none_is m (rw k at e))
    ]

module _ (t : Table) (p : Position) (text : Text) (wide high : Option ℕ) (width : wide ≡ if_fits (rect_width (sized t.config t.width t.height 0 t.columns) p)) (height : high ≡ (if nat_lt (p.row + rect_rows t.config.spans p) (2 ^ 64) then if_fits (height_of_rect t.config t.height p) else None)) where
  width-is : (w : ℕ) → wide ≡ Some w → (w ≡ rect_width t p) × (rect_width t p < 2 ^ 64)
  unfolding rect_width
  width-is w e = if_fits-some (rect_width t p) w (sym width ∙ e)

  height-is : (h : ℕ) → high ≡ Some h → (h ≡ height_of_rect t.config t.height p) × (height_of_rect t.config t.height p < 2 ^ 64) × (p.row + rect_rows t.config.spans p < 2 ^ 64)
  height-is h e =
      elim (cases_Bool (nat_lt (p.row + rect_rows t.config.spans p) (2 ^ 64))) [
        | inl y ↦ let f = if_fits-some (height_of_rect t.config t.height p) h (rw y at (sym height ∙ e)) in (f.0, f.1, grind (arith, nat_tests, y))
        | inr n ↦ absurd (none_is h (rw n at (sym height ∙ e)))
      ]

  pub room-from : (w h : ℕ) → wide ≡ Some w → high ≡ Some h → cell_fits (style_at t.config p) text w h ≡ true → HasRoom t p text
  room-from w h a b fits =
      let x = width-is w a in
      let y = height-is h b in
      record { end = y.2; width = x.1; height = y.1; room = (rw (x.0, y.0) at fits) }

  pub room-fits : (w h : ℕ) → wide ≡ Some w → high ≡ Some h → HasRoom t p text → cell_fits (style_at t.config p) text w h ≡ true
  room-fits w h a b room =
      let x = width-is w a in
      let y = height-is h b in
      rw (x.0, y.0) room.room

  pub room-wide : HasRoom t p text → wide ≡ None → ⊥
  room-wide room none = none_is (rect_width t p) (sym none ∙ width-some t p wide room.width width)

  pub room-high : HasRoom t p text → high ≡ None → ⊥
  room-high room none = none_is (height_of_rect t.config t.height p) (sym none ∙ height-some t p high room.end room.height height)

-- ---- a walk along a row from left column to left column, past cells that show each line

shows-other : (t : Table) (texts : List Text) (r c : ℕ) → is_at (owner t.config.spans r c) r c ≡ false → row_cell_shows_all t texts (at r c) ≡ true
shows-other t texts r c other = rw other refl

pub next_left_column : (t : Table) (texts : List Text) (rows : ℕ) → InOrder t.config.spans rows t.columns → (r x w : ℕ) → w ≡ columns_or_one (left_span t.config.spans r x) → is_left t.config.spans r x ≡ true → x < t.columns → row_cell_shows_all t texts (at r x) ≡ true
    → first_failed (row_cell_shows_all t texts) (row_places t.columns r x) ≡ first_failed (row_cell_shows_all t texts) (row_places t.columns r (x + w))
next_left_column t texts rows order r x w is left here shows =
    next_places (row_cell_shows_all t texts) t.columns r x w (step-inside t.config.spans rows t.columns order r x w is left here) (λ y l k.
    elim (cases_Bool (x == y)) [
      | inl same ↦ let one : x ≡ y = grind (arith, nat_tests, same) in subst (λ (z : ℕ). row_cell_shows_all t texts (at r z) ≡ true) one shows
      | inr other ↦ shows-other t texts r y (step-other t.config.spans rows t.columns order r x w is left here y (grind (arith, nat_tests, other, l)) k)
    ])

-- the first of a row's places that fails is what the row is told by
pub first_in_row : (t : Table) (texts : List Text) (r : ℕ) → first_failed (row_cell_shows_all t texts) (row_places t.columns r 0) ≡ unshown_in_row t r texts
first_in_row t texts r =
    let all : t.columns - 0 ≡ t.columns = omega arith in
    ap (λ (n : ℕ). find (λ p. not (row_cell_shows_all t texts p)) (map (at r) (range_with_len 0 n))) all

-- ---- what keeps a printer from being made, test by test; where nothing does, one may be made

some≢none : {m : Misfit} → Some m ≡ None → ⊥
some≢none e = false≢true (sym (ap (λ (o : Option Misfit). is_some o) e))

-- ---- the first thing that doesn't fit

module _ (config : Config) (columns : ℕ) (width height : ℕ → ℕ) (color : Position → Option Color) where
  -- of a printer of these parts, where the number of rows is known or not
  abbrev pub found : Option ℕ → Option Misfit
  found hint = printer_misfit (printer config columns width height color hint)

  pub found-columns : (hint : Option ℕ) → (0 < columns → columns < 2 ^ 64 - 1 → ⊥) → Err Totals ≡ unless_misfit (found hint)
  unfolding printer printer_misfit
  found-columns hint bad =
      elim (cases_Bool (nat_lt 0 columns && nat_lt columns (2 ^ 64 - 1))) [
        | inl y ↦ absurd (bad (grind (arith, nat_tests, y)) (grind (arith, nat_tests, y)))
        | inr n ↦ rw n refl
      ]

  module _ (some : 0 < columns) (few : columns < 2 ^ 64 - 1) where
    counted : (nat_lt 0 columns && nat_lt columns (2 ^ 64 - 1)) ≡ true
    counted = grind (arith, nat_tests, some, few)

    pub found-spans : (hint : Option ℕ) (b : Bool) → b ≡ spans_fit_columns config.spans columns → b ≡ false → Err Spans ≡ unless_misfit (found hint)
    unfolding printer printer_misfit
    found-spans hint b is bad = let apart : spans_fit_columns config.spans columns ≡ false = sym is ∙ bad in rw (counted, apart) refl

    module _ (b : Bool) (b-is : b ≡ spans_fit_columns config.spans columns) (b-true : b ≡ true) (o : Option ℕ) (o-is : o ≡ if_fits (full_width (sized config width height 0 columns))) where
      pub found-width : (hint : Option ℕ) → o ≡ None → Err Totals ≡ unless_misfit (found hint)
      unfolding printer printer_misfit full_width total_width
      found-width hint none =
          let apart : spans_fit_columns config.spans columns ≡ true = sym b-is ∙ b-true in
          elim (cases_Bool (nat_lt (full_width (sized config width height 0 columns)) (2 ^ 64))) [
            | inl y ↦ absurd (none_is _ (sym none ∙ (rw y at o-is)))
            | inr n ↦ rw (counted, apart, n) refl
          ]

      module _ (w : ℕ) (wide : o ≡ Some w) where
        -- the rest is that of the rows
        pub found-rest : (hint : Option ℕ) → found hint ≡ rows_misfit (printer config columns width height color hint) hint
        unfolding printer printer_misfit full_width total_width
        found-rest hint =
            let apart : spans_fit_columns config.spans columns ≡ true = sym b-is ∙ b-true in
            elim (cases_Bool (nat_lt (full_width (sized config width height 0 columns)) (2 ^ 64))) [
              | inl y ↦ rw (counted, apart, y) refl
              | inr n ↦ absurd (none_is w (sym (rw n at o-is) ∙ wide))
            ]

  module _ (rows : ℕ) (b : Bool) (b-is : b ≡ spans_fit config.spans rows columns) where
    abbrev pub rest : Option Misfit
    rest = rows_misfit (printer config columns width height color (Some rows)) (Some rows)

    pub rest-spans : b ≡ false → rest ≡ Some Spans
    unfolding printer
    rest-spans bad = let inside : spans_fit config.spans rows columns ≡ false = sym b-is ∙ bad in rw inside refl

    module _ (b-true : b ≡ true) (d : Bool) (d-is : d ≡ totals_fit (sized config width height rows columns)) where
      pub rest-totals : d ≡ false → rest ≡ Some Totals
      unfolding printer totals_fit full_width total_width body_height
      rest-totals bad =
          let inside : spans_fit config.spans rows columns ≡ true = sym b-is ∙ b-true in
          let past : totals_fit (sized config width height rows columns) ≡ false = sym d-is ∙ bad in
          rw (inside, past) refl

      pub rest-none : d ≡ true → rest ≡ None
      unfolding printer totals_fit full_width total_width body_height
      rest-none good =
          let inside : spans_fit config.spans rows columns ≡ true = sym b-is ∙ b-true in
          let countable : totals_fit (sized config width height rows columns) ≡ true = sym d-is ∙ good in
          rw (inside, countable) refl

-- ---- where nothing is found, a printer may be made

-- what is asked of the rows, where their number is known
abbrev RowsFitHint : Printing → Option ℕ → Type 0
RowsFitHint s hint = IfSome hint (λ rows. (spans_fit s.table.config.spans rows s.table.columns ≡ true) × (totals_fit (record s.table { rows = rows }) ≡ true))

rows-fit : (s : Printing) (hint : Option ℕ) → rows_misfit s hint ≡ None → RowsFitHint s hint
rows-fit s None e = tt
rows-fit s (Some rows) e =
    elim (cases_Bool (spans_fit s.table.config.spans rows s.table.columns)) [
      | inr n ↦ absurd (some≢none (rw n at e))
      | inl y ↦ elim (cases_Bool (totals_fit (record s.table { rows = rows }))) [ inl z ↦ (y, z) | inr n ↦ absurd (some≢none (rw (y, n) at e)) ]
    ]

none-of-rows : (s : Printing) (hint : Option ℕ) → RowsFitHint s hint → rows_misfit s hint ≡ None
none-of-rows s None h = refl
none-of-rows s (Some rows) h = rw (h.0, h.1) refl

fits-of-none : (s : Printing) → printer_misfit s ≡ None → PrinterFits s
unfolding printer_misfit
fits-of-none s e =
    elim (cases_Bool (nat_lt 0 s.table.columns && nat_lt s.table.columns (2 ^ 64 - 1))) [
      | inr n ↦ absurd (some≢none (rw n at e))
      | inl counted ↦ elim (cases_Bool (spans_fit_columns s.table.config.spans s.table.columns)) [
        | inr n ↦ absurd (some≢none (rw (counted, n) at e))
        | inl apart ↦ elim (cases_Bool (nat_lt (full_width s.table) (2 ^ 64))) [
          | inr n ↦ absurd (some≢none (rw (counted, apart, n) at e))
          | inl narrow ↦ record {
            some = grind (arith, nat_tests, counted);
            few = grind (arith, nat_tests, counted);
            spans = apart;
            width = grind (arith, nat_tests, narrow);
            hint = rows-fit s s.hint (rw (counted, apart, narrow) at e);
          }
        ]
      ]
    ]

none-of-fits : (s : Printing) → PrinterFits s → printer_misfit s ≡ None
unfolding printer_misfit
none-of-fits s fits =
    let some = fits.some in
    let few = fits.few in
    let width = fits.width in
    let counted : (nat_lt 0 s.table.columns && nat_lt s.table.columns (2 ^ 64 - 1)) ≡ true = grind (arith, nat_tests, some, few) in
    let narrow : nat_lt (full_width s.table) (2 ^ 64) ≡ true = grind (arith, nat_tests, width) in
    rw (counted, fits.spans, narrow) (none-of-rows s s.hint fits.hint)

-- ---- what the calls tell

-- what a test answers that tells of no misfit
none-told : (m : Option Misfit) {u : Unit {0}} → Ok u ≡ unless_misfit m → m ≡ None
none-told None e = refl
none-told (Some m) e = absurd (false≢true (sym (ap is_ok e)))

pub misfit-told : (m : Option Misfit) (e : Misfit) → Err e ≡ unless_misfit m → m ≡ Some e
misfit-told None e is = absurd (false≢true (ap is_ok is))
misfit-told (Some m) e is = let same : m ≡ e = cc in ap (λ x. Some x) same

-- the test answers Ok exactly where a printer may be made
pub fits-told : (s : Printing) (r : Result (Unit {0}) Misfit) → r ≡ unless_misfit (printer_misfit s) → IsOk r ↔ PrinterFits s
fits-told s (Ok u) is = (λ ok. fits-of-none s (none-told (printer_misfit s) is), λ fits. refl)
fits-told s (Err e) is = (λ ok. absurd (false≢true ok), λ fits. absurd (some≢none (sym (misfit-told (printer_misfit s) e is) ∙ none-of-fits s fits)))

-- two calls that end in the same fault, or in none, tell the same misfit
pub told-alike : {X Y : Type 0} (P : Misfit → Type 0) (r : Result X StreamFault) (q : Result Y StreamFault) → result_err r ≡ result_err q
    → ((m : Misfit) → (r ≡ Err (StreamFault.Misfit m)) ↔ P m) → (m : Misfit) → (q ≡ Err (StreamFault.Misfit m)) ↔ P m
told-alike P (Ok x) (Ok y) same tells m = (λ is. absurd (false≢true (ap is_err is)), λ found. absurd (false≢true (ap is_err ((tells m).1 found))))
told-alike P (Err f) (Err e) same tells m =
    let one : f ≡ e = cc in
    (λ is. (tells m).0 (let fault : e ≡ StreamFault.Misfit m = cc in ap (λ x. Err x) (one ∙ fault)), λ found. let fault : f ≡ StreamFault.Misfit m = (let told = (tells m).1 found in cc) in ap (λ x. Err x) (sym one ∙ fault))
told-alike P (Ok x) (Err e) same tells m = cc
told-alike P (Err f) (Ok y) same tells m = cc
