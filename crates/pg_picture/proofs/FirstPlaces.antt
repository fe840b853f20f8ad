-- The first place that fails a test, place by place, row by row and owner by owner.
use Rattle.std.proofs.Common.{◌≡◌, ℕ, zero, suc, ◌+◌, ◌<◌, ◌≤◌, Bool, true, false, not, nat_lt, ◌==◌, List, refl, sym, ap, ◌∙◌, arith, subst, Option, Some, is_some, inl, inr, ◌-◌, ◌||◌, [], ◌∷◌, ◌++◌, map, flat_map, find, None, Result, Ok, Err, if◌then◌else◌}
use Rattle.std.proofs.lemmas.Bool.{cases_Bool, cases_lt, false≢true}
use Rattle.std.proofs.lemmas.Bool.Decides.{nat_tests}
use Rattle.pg_layout.specs.Position.{at, is_at}
use Rattle.pg_layout.specs.declared.position.Position.{Position}
use Rattle.pg_config.specs.Spans.{Span, corner, size_of, owner, is_left, left_span, if_above}
use Rattle.pg_picture.specs.Inside.{columns_or_one, first_failed, owner_passes, row_places, places_from}
use Rattle.pg_picture.proofs.OwnersOfPlaces.{InOrder, option_cases, left_sound, owner_found, size_of_corner, owner_alone, step_positive, step_inside, next_left, inner}
use Rattle.pg_picture.proofs.Owners.{is_at-same}
use Rattle.std.specs.List.{range_with_len}
use Rattle.pg_picture.specs.declared.fits.Misfit.{Misfit}
use Rattle.pg_picture.specs.declared.shown.Unshown.{Unshown}
use Rattle.pg_picture.specs.CompactLines.{CompactTable, compact_width, compact_full_width, compact_sized}
use Rattle.pg_picture.specs.Fits.{places, misfit_of, compact_misfit_of, spans_fit, totals_fit, cell_fits, owner_fits, TableFits}
use Rattle.pg_picture.specs.Sizes.{unless_misfit}
use Rattle.pg_picture.specs.Pieces.{Style, style_at}
use Rattle.pg_picture.specs.Shown.{owner_shows_all, unshown_of, misfit_or_cell, is_one_line, compact_unshown_of}
use Rattle.pg_picture.specs.Table.{Table, rect_width, rect_height}
use Rattle.pg_layout.specs.Text.{Text}
use Rattle.std.specs.Option.{option_map}
use Rattle.pg_picture.specs.declared.fits.Misfit.TheVariants.{Spans, Totals, Room}
use Rattle.pg_picture.proofs.FittingTables.{rect_width_plain, rect_height_plain}

-- ---- a walk along a row from left column to left column meets each place that owns itself

module _ (spans : List Span) (rows columns : ℕ) (order : InOrder spans rows columns) where
  own_left : (r x : ℕ) → is_left spans r x ≡ true → is_at (owner spans r x) r x ≡ not (is_some (if_above r (left_span spans r x)))
  own_left r x left =
      elim (option_cases (left_span spans r x)) [
        | inl none ↦ rw (none, owner_alone spans rows columns order r x left none) (grind (arith, nat_tests))
        | inr some ↦
            let f = left_sound spans rows columns order r x some.0 some.1 in
            elim (cases_Bool (nat_lt some.0.0.row r)) [
              | inl y ↦ rw (some.1, owner_found spans rows columns order r x some.0 some.1, y) (grind (arith, nat_tests, y))
              | inr n ↦ rw (some.1, owner_found spans rows columns order r x some.0 some.1, n) (grind (arith, nat_tests, n, f.left, f.holds))
            ]
      ]

  -- a left column owns itself, unless the rectangle that is found there begins above
  pub own_unless : (r x : ℕ) (found : Option Span) (above b : Bool) → is_left spans r x ≡ true → found ≡ left_span spans r x → above ≡ is_some (if_above r found) → above ≡ b → is_at (owner spans r x) r x ≡ not b
  own_unless r x found above b left is test here =
      own_left r x left ∙ ap (λ (o : Option Span). not (is_some (if_above r o))) (sym is) ∙ ap not (sym test ∙ here)

  -- a rectangle that is found at the place that owns it is as large as its span tells
  pub own_size : (p : Position) (s : Span) → left_span spans p.row p.col ≡ Some s → is_at (owner spans p.row p.col) p.row p.col ≡ true → size_of spans p ≡ s.1
  own_size p s found own =
      let f = left_sound spans rows columns order p.row p.col s found in
      let here : p ≡ corner s = sym (is_at-same (owner spans p.row p.col) p own) ∙ owner_found spans rows columns order p.row p.col s found in
      ap (size_of spans) here ∙ size_of_corner spans rows columns order s f.among

  -- ---- a step of the walk

  module _ (r x w : ℕ) (is : w ≡ columns_or_one (left_span spans r x)) (left : is_left spans r x ≡ true) (here : x < columns) where
    pub step-some : 0 < w
    step-some = omega (arith, is, step_positive spans rows columns order r x)

    pub step-inside : x + w ≤ columns
    step-inside = omega (arith, is, step_inside spans rows columns order r x here)

    pub step-left : is_left spans r (x + w) ≡ true
    step-left = subst (λ (k : ℕ). is_left spans r (x + k) ≡ true) (sym is) (next_left spans rows columns order r x left)

    -- the places that it passes don't own themselves
    pub step-other : (y : ℕ) → x < y → y < x + w → is_at (owner spans r y) r y ≡ false
    unfolding is_left
    step-other y h k =
        let other = (inner spans rows columns order r x y left h (omega (arith, k, is))).not_left in
        grind (arith, nat_tests, other)

    -- so where all owners before it have what they need, and it has, all owners before the next step have it
    pub step-all : (P : ℕ → Type 0) → ((y : ℕ) → y < x → is_at (owner spans r y) r y ≡ true → P y) → (is_at (owner spans r x) r x ≡ true → P x) → (y : ℕ) → y < x + w → is_at (owner spans r y) r y ≡ true → P y
    step-all P before now y h own =
        elim (cases_lt y x) [
          | inl l ↦ before y l own
          | inr g ↦ elim (cases_lt x y) [
            | inl l ↦ absurd (false≢true (sym (step-other y l h) ∙ own))
            | inr k ↦ let same : x ≡ y = omega (arith, g, k) in subst P same (now (subst (λ (z : ℕ). is_at (owner spans r z) r z ≡ true) (sym same) own))
          ]
        ]

-- ---- the first place that fails a test, place by place and row by row; and the first owner that does

pub row_places-next : (columns r c : ℕ) → c < columns → row_places columns r c ≡ at r c ∷ row_places columns r (c + 1)
row_places-next columns r c h = let e : columns - c ≡ suc (columns - (c + 1)) = omega arith in rw e refl

pub row_places-end : (columns r c : ℕ) → columns ≤ c → row_places columns r c ≡ []
row_places-end columns r c h = let e : columns - c ≡ 0 = omega arith in rw e refl

pub places_from-next : (rows columns r : ℕ) → r < rows → places_from rows columns r ≡ row_places columns r 0 ++ places_from rows columns (r + 1)
places_from-next rows columns r h =
    let e : rows - r ≡ suc (rows - (r + 1)) = omega arith in
    let z : columns - 0 ≡ columns = omega arith in
    rw (e, z) refl

pub places_from-end : (rows columns r : ℕ) → rows ≤ r → places_from rows columns r ≡ []
places_from-end rows columns r h = let e : rows - r ≡ 0 = omega arith in rw e refl

module _ (passes : Position → Bool) where
  pub failed_here : (p : Position) (ps : List Position) → passes p ≡ false → first_failed passes (p ∷ ps) ≡ Some p
  failed_here p ps e = rw e refl

  pub failed_later : (p : Position) (ps : List Position) → passes p ≡ true → first_failed passes (p ∷ ps) ≡ first_failed passes ps
  failed_later p ps e = rw e refl

  pub failed_after : (ps qs : List Position) → first_failed passes ps ≡ None → first_failed passes (ps ++ qs) ≡ first_failed passes qs
  failed_after [] qs e = refl
  failed_after (p ∷ ps) qs e =
      elim (cases_Bool (passes p)) [
        | inl y ↦ failed_later p (ps ++ qs) y ∙ failed_after ps qs (sym (failed_later p ps y) ∙ e)
        | inr n ↦ absurd (false≢true (ap (λ (o : Option Position). is_some o) (sym e ∙ failed_here p ps n)))
      ]

  pub failed_before : (ps qs : List Position) (m : Position) → first_failed passes ps ≡ Some m → first_failed passes (ps ++ qs) ≡ Some m
  failed_before [] qs m e = absurd (false≢true (ap (λ (o : Option Position). is_some o) e))
  failed_before (p ∷ ps) qs m e =
      elim (cases_Bool (passes p)) [
        | inl y ↦ failed_later p (ps ++ qs) y ∙ failed_before ps qs m (sym (failed_later p ps y) ∙ e)
        | inr n ↦ failed_here p (ps ++ qs) n ∙ sym (failed_here p ps n) ∙ e
      ]

  -- a row that passes, and one that fails
  pub next_row : (rows columns r : ℕ) → r < rows → first_failed passes (row_places columns r 0) ≡ None → first_failed passes (places_from rows columns r) ≡ first_failed passes (places_from rows columns (r + 1))
  next_row rows columns r h e = ap (λ ps. first_failed passes ps) (places_from-next rows columns r h) ∙ failed_after (row_places columns r 0) (places_from rows columns (r + 1)) e

  pub failed_row : (rows columns r : ℕ) (m : Position) → r < rows → first_failed passes (row_places columns r 0) ≡ Some m → first_failed passes (places_from rows columns r) ≡ Some m
  failed_row rows columns r m h e = ap (λ ps. first_failed passes ps) (places_from-next rows columns r h) ∙ failed_before (row_places columns r 0) (places_from rows columns (r + 1)) m e

  pub next_place : (columns r c : ℕ) → c < columns → passes (at r c) ≡ true → first_failed passes (row_places columns r c) ≡ first_failed passes (row_places columns r (c + 1))
  next_place columns r c h e = ap (λ ps. first_failed passes ps) (row_places-next columns r c h) ∙ failed_later (at r c) (row_places columns r (c + 1)) e

  pub failed_place : (columns r c : ℕ) → c < columns → passes (at r c) ≡ false → first_failed passes (row_places columns r c) ≡ Some (at r c)
  failed_place columns r c h e = ap (λ ps. first_failed passes ps) (row_places-next columns r c h) ∙ failed_here (at r c) (row_places columns r (c + 1)) e

  -- places that pass are left behind
  pub next_places : (columns r x w : ℕ) → x + w ≤ columns → ((y : ℕ) → x ≤ y → y < x + w → passes (at r y) ≡ true) → first_failed passes (row_places columns r x) ≡ first_failed passes (row_places columns r (x + w))
  next_places columns r x zero h all = let same : x ≡ x + 0 = omega arith in ap (λ (k : ℕ). first_failed passes (row_places columns r k)) same
  next_places columns r x (suc w) h all =
      let same : (x + 1) + w ≡ x + suc w = omega arith in
      next_place columns r x (omega (arith, h)) (all x (omega arith) (omega arith))
      ∙ next_places columns r (x + 1) w (omega (arith, h)) (λ y l k. all y (omega (arith, l)) (omega (arith, k)))
      ∙ ap (λ (k : ℕ). first_failed passes (row_places columns r k)) same

  -- where none of a row fails, each passes
  pub passed_in_row : (r a k c : ℕ) → first_failed passes (map (at r) (range_with_len a k)) ≡ None → a ≤ c → c < a + k → passes (at r c) ≡ true
  passed_in_row r a zero c e h l = absurd (omega (arith, h, l))
  passed_in_row r a (suc k) c e h l =
      elim (cases_Bool (passes (at r a))) [
        | inr n ↦ absurd (false≢true (ap (λ (o : Option Position). is_some o) (sym e ∙ failed_here (at r a) (map (at r) (range_with_len (a + 1) k)) n)))
        | inl y ↦ elim (cases_Bool (a == c)) [
          | inl same ↦ let is : a ≡ c = grind (arith, nat_tests, same) in subst (λ x. passes (at r x) ≡ true) is y
          | inr other ↦
              let away : a + 1 ≤ c = grind (arith, nat_tests, other, h) in
              passed_in_row r (a + 1) k c (sym (failed_later (at r a) (map (at r) (range_with_len (a + 1) k)) y) ∙ e) away (omega (arith, l))
        ]
      ]

  none_of_front : (ps qs : List Position) → first_failed passes (ps ++ qs) ≡ None → first_failed passes ps ≡ None
  none_of_front [] qs e = refl
  none_of_front (p ∷ ps) qs e =
      elim (cases_Bool (passes p)) [
        | inl y ↦ failed_later p ps y ∙ none_of_front ps qs (sym (failed_later p (ps ++ qs) y) ∙ e)
        | inr n ↦ absurd (false≢true (ap (λ (o : Option Position). is_some o) (sym e ∙ failed_here p (ps ++ qs) n)))
      ]

  -- and where none of the rows does
  pub passed_in_rows : (columns a k r c : ℕ) → first_failed passes (flat_map (λ r. map (at r) (range_with_len 0 columns)) (range_with_len a k)) ≡ None → a ≤ r → r < a + k → c < columns → passes (at r c) ≡ true
  passed_in_rows columns a zero r c e h l k = absurd (omega (arith, h, l))
  passed_in_rows columns a (suc n) r c e h l k =
      let front = none_of_front (map (at a) (range_with_len 0 columns)) (flat_map (λ r. map (at r) (range_with_len 0 columns)) (range_with_len (a + 1) n)) e in
      elim (cases_Bool (a == r)) [
        | inl same ↦ let is : a ≡ r = grind (arith, nat_tests, same) in subst (λ x. passes (at x c) ≡ true) is (passed_in_row a 0 columns c front (omega arith) (omega (arith, k)))
        | inr other ↦
            let away : a + 1 ≤ r = grind (arith, nat_tests, other, h) in
            passed_in_rows columns (a + 1) n r c (sym (failed_after (map (at a) (range_with_len 0 columns)) (flat_map (λ r. map (at r) (range_with_len 0 columns)) (range_with_len (a + 1) n)) front) ∙ e) away (omega (arith, l)) k
      ]

  -- where all places pass, none fails
  module _ (rows columns : ℕ) (all : (r c : ℕ) → r < rows → c < columns → passes (at r c) ≡ true) where
    none_in_row : (r c k : ℕ) → r < rows → c + k ≤ columns → first_failed passes (map (at r) (range_with_len c k)) ≡ None
    none_in_row r c zero h l = refl
    none_in_row r c (suc k) h l = failed_later (at r c) (map (at r) (range_with_len (c + 1) k)) (all r c h (omega (arith, l))) ∙ none_in_row r (c + 1) k h (omega (arith, l))

    none_in_rows : (r k : ℕ) → r + k ≤ rows → first_failed passes (flat_map (λ r. map (at r) (range_with_len 0 columns)) (range_with_len r k)) ≡ None
    none_in_rows r zero l = refl
    none_in_rows r (suc k) l =
        failed_after (map (at r) (range_with_len 0 columns)) (flat_map (λ r. map (at r) (range_with_len 0 columns)) (range_with_len (r + 1) k)) (none_in_row r 0 columns (omega (arith, l)) (omega arith))
        ∙ none_in_rows (r + 1) k (omega (arith, l))

    pub none_failed : first_failed passes (places_from rows columns 0) ≡ None
    none_failed = none_in_rows 0 (rows - 0) (omega arith)

-- ---- owners

module _ (test : Style → Text → ℕ → ℕ → Bool) (t : Table) where
  -- a place that another one owns passes
  pub owner_passes-other : (r c : ℕ) → is_at (owner t.config.spans r c) r c ≡ false → owner_passes test t (at r c) ≡ true
  owner_passes-other r c other = rw other refl

  -- one that owns itself passes where its rectangle does
  pub owner_passes-own : (p : Position) → is_at (owner t.config.spans p.row p.col) p.row p.col ≡ true → owner_passes test t p ≡ test (style_at t.config p) (t.text p) (rect_width t p) (rect_height t p)
  owner_passes-own p own = rw own refl

  -- a step of a walk from left column to left column, where the first passes
  pub next_left_column : InOrder t.config.spans t.rows t.columns → (r x w : ℕ) → w ≡ columns_or_one (left_span t.config.spans r x) → is_left t.config.spans r x ≡ true → x < t.columns → owner_passes test t (at r x) ≡ true
      → first_failed (owner_passes test t) (row_places t.columns r x) ≡ first_failed (owner_passes test t) (row_places t.columns r (x + w))
  next_left_column order r x w is left here passed =
      next_places (owner_passes test t) t.columns r x w (step-inside t.config.spans t.rows t.columns order r x w is left here) (λ y l k.
      elim (cases_Bool (x == y)) [
        | inl same ↦ let one : x ≡ y = grind (arith, nat_tests, same) in subst (λ (z : ℕ). owner_passes test t (at r z) ≡ true) one passed
        | inr other ↦ owner_passes-other r y (step-other t.config.spans t.rows t.columns order r x w is left here y (grind (arith, nat_tests, other, l)) k)
      ])

-- ---- the whole table

misfit_in : Result (Unit {0}) Misfit → Option Misfit
misfit_in (Ok u) = None
misfit_in (Err m) = Some m

misfit_in-told : (o : Option Misfit) → o ≡ misfit_in (unless_misfit o)
unfolding misfit_in
misfit_in-told None = refl
misfit_in-told (Some m) = refl

-- a misfit that is answered is the table's
pub misfit_told : (o : Option Misfit) (m : Misfit) → Err m ≡ unless_misfit o → o ≡ Some m
unfolding misfit_in
misfit_told o m e = misfit_in-told o ∙ sym (ap misfit_in e)

-- it is why not all is shown
pub unshown_of-misfit : (t : Table) (m : Misfit) → ((t.rows == 0) || (t.columns == 0)) ≡ false → misfit_of t ≡ Some m → unshown_of t ≡ Some (Unshown.Misfit m)
unfolding unshown_of
unshown_of-misfit t m size e = rw (size, e) refl

-- without a misfit the first cell is
pub unshown_of-cell : (t : Table) → ((t.rows == 0) || (t.columns == 0)) ≡ false → misfit_of t ≡ None → unshown_of t ≡ misfit_or_cell None (first_failed (owner_shows_all t) (places_from t.rows t.columns 0))
unfolding unshown_of places
unshown_of-cell t size e =
    let z : t.rows - 0 ≡ t.rows = omega arith in
    rw (size, e, z) refl

-- ---- a compact table

pub compact_misfit-sized : (t : CompactTable) → compact_misfit_of t ≡ compact_misfit_of (compact_sized t.config t.width t.columns)
unfolding compact_misfit_of compact_full_width compact_width
compact_misfit-sized t = refl

-- its misfit has nothing to do with its texts
pub compact_misfit-texts : (t : CompactTable) (columns : ℕ) → columns ≡ t.columns → compact_misfit_of t ≡ compact_misfit_of (compact_sized t.config t.width columns)
compact_misfit-texts t columns same = compact_misfit-sized t ∙ ap (λ (n : ℕ). compact_misfit_of (compact_sized t.config t.width n)) (sym same)

pub compact_unshown_of-misfit : (t : CompactTable) (m : Misfit) → ((t.rows == 0) || (t.columns == 0)) ≡ false → compact_misfit_of t ≡ Some m → compact_unshown_of t ≡ Some (Unshown.Misfit m)
unfolding compact_unshown_of
compact_unshown_of-misfit t m size e = rw (size, e) refl

pub compact_unshown_of-cell : (t : CompactTable) → ((t.rows == 0) || (t.columns == 0)) ≡ false → compact_misfit_of t ≡ None → compact_unshown_of t ≡ misfit_or_cell None (first_failed (λ (p : Position). is_one_line (t.text p)) (places_from t.rows t.columns 0))
unfolding compact_unshown_of places
compact_unshown_of-cell t size e =
    let z : t.rows - 0 ≡ t.rows = omega arith in
    rw (size, e, z) refl

-- ---- what it means that no place is without room

-- the misfit of a cell without room
abbrev pub room_of : Position → Misfit
room_of p = Room p.row p.col

none_of_map : (o : Option Position) → option_map room_of o ≡ None → o ≡ None
none_of_map None e = refl
none_of_map (Some p) e = absurd (false≢true (sym (ap (λ (m : Option Misfit). is_some m) e)))

-- all places are those from row 0 on
all_places : (rows columns : ℕ) → places rows columns ≡ places_from rows columns 0
unfolding places
all_places rows columns = let z : rows - 0 ≡ rows = omega arith in rw z refl

module _ (t : Table) where
  -- ---- a table that fits

  some_size : 0 < t.rows → 0 < t.columns → ((t.rows == 0) || (t.columns == 0)) ≡ false
  some_size h k = grind (arith, nat_tests, h, k)

  judged : Bool → Bool → Option Misfit
  judged s u = if not s then Some Spans else if not u then Some Totals else option_map room_of (first_failed (owner_fits t) (places t.rows t.columns))

  pub fits : misfit_of t ≡ None → 0 < t.rows → 0 < t.columns → TableFits t
  unfolding misfit_of places judged
  fits e h k =
      let size = some_size h k in
      let f : judged (spans_fit t.config.spans t.rows t.columns) (totals_fit t) ≡ None = (rw size at e) in
      elim (cases_Bool (spans_fit t.config.spans t.rows t.columns)) [
        | inr n ↦ absurd (false≢true (ap (λ (o : Option Misfit). is_some o) (sym (rw n at f))))
        | inl y ↦ elim (cases_Bool (totals_fit t)) [
          | inr n ↦ absurd (false≢true (ap (λ (o : Option Misfit). is_some o) (sym (rw (y, n) at f))))
          | inl z ↦ record {
            spans = y;
            totals = z;
            rooms = λ r c hr hc. passed_in_rows (owner_fits t) t.columns 0 t.rows r c (none_of_map _ (rw (y, z) at f)) (omega arith) (omega (arith, hr)) hc;
          }
        ]
      ]

  pub fitting_tables_have_none : TableFits t → misfit_of t ≡ None
  unfolding misfit_of
  fitting_tables_have_none fit =
      elim (cases_Bool ((t.rows == 0) || (t.columns == 0))) [
        | inl y ↦ rw y refl
        | inr n ↦
            let none : first_failed (owner_fits t) (places t.rows t.columns) ≡ None = ap (λ ps. first_failed (owner_fits t) ps) (all_places t.rows t.columns) ∙ none_failed (owner_fits t) t.rows t.columns fit.rooms in
            rw (n, fit.spans, fit.totals) (ap (λ (o : Option Position). option_map room_of o) none)
      ]

  own_plain : (p : Position) → t.config.spans ≡ [] → is_at (owner t.config.spans p.row p.col) p.row p.col ≡ true
  unfolding owner
  own_plain p none = let own : is_at (at p.row p.col) p.row p.col ≡ true = grind (arith, nat_tests) in subst (λ spans. is_at (owner spans p.row p.col) p.row p.col ≡ true) (sym none) own

  -- without spans each cell has room in its column and its row
  pub cell_fits_plain : (p : Position) → t.config.spans ≡ [] → p.row < t.rows → owner_fits t p ≡ true → cell_fits (style_at t.config p) (t.text p) (t.width p.col) (t.height p.row) ≡ true
  unfolding owner_fits
  cell_fits_plain p none h e = rw (own_plain p none, rect_width_plain t none p, rect_height_plain t none p h) at e

  pub misfit_of-totals : ((t.rows == 0) || (t.columns == 0)) ≡ false → spans_fit t.config.spans t.rows t.columns ≡ true → totals_fit t ≡ false → misfit_of t ≡ Some Totals
  unfolding misfit_of
  misfit_of-totals size spans totals = rw (size, spans, totals) refl

  -- with spans and totals that fit, the first owner without room is left
  pub misfit_of-rooms : ((t.rows == 0) || (t.columns == 0)) ≡ false → spans_fit t.config.spans t.rows t.columns ≡ true → totals_fit t ≡ true → misfit_of t ≡ option_map room_of (first_failed (owner_passes cell_fits t) (places_from t.rows t.columns 0))
  unfolding misfit_of places owner_fits
  misfit_of-rooms size spans totals =
      let z : t.rows - 0 ≡ t.rows = omega arith in
      rw (size, spans, totals, z) refl
