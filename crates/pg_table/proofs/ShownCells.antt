-- The shown cells: those without a span and the corners of spans, met in a walk along a row.
use Rattle.std.proofs.Common.{◌≡◌, ℕ, true, List, [], ◌∷◌, map, find, All, refl, sym, ap, ◌∙◌, arith, subst, Option, Some, None, is_some, unwrap_or, inl, inr, ◌+◌, ◌<◌, ◌≤◌, Bool, false, is_none, zero, suc, ◌-◌, ◌^◌, zero-add, not, ◌&&◌, ◌||◌, ◌==◌, nat_lt, ◌⊎◌}
use Rattle.std.specs.List.{list_all, range_with_len, list_any}
use Rattle.std.proofs.lemmas.Bool.{cases_Bool, and_parts, false≢true, and_from}
use Rattle.std.proofs.lemmas.Bool.Decides.{nat_tests}
use Rattle.std.proofs.lemmas.List.Elements.{All-nil, All-cons, All-head, All-tail}
use Rattle.pg_layout.specs.declared.position.Position.{Position}
use Rattle.pg_layout.specs.Keys.{by_columns, column_place}
use Rattle.pg_layout.specs.Places.{same, value_at}
use Rattle.pg_layout.specs.Position.{at}
use Rattle.pg_config.specs.Spans.{Span, corner, in_span, size_of, span_size, owner, is_left, left_span, is_visible, is_covered_by_column, is_covered_by_row, is_covered_by_both}
use Rattle.pg_picture.specs.Fits.{span_fits}
use Rattle.pg_picture.proofs.OwnersOfPlaces.{Among, InOrder, option_cases, find_cases, left_found, left_sound, owner_alone, owner_is, room_among}
use Rattle.pg_picture.specs.Inside.{columns_or_one}
use Rattle.pg_table.specs.Natural.{is_single, cell_size, cell_at, count, count_cells, single_size, size_of_singles, need_of, natural_size, is_sized, all_fit, cells_fit, takes}
use Rattle.std.proofs.lemmas.List.FromFn.{length-range_with_len, get_or-range_with_len}
use Rattle.pg_layout.specs.Text.{Text}
use Rattle.pg_config.specs.Config.{Config}
use Rattle.pg_table.specs.Inside.{IsHuge, HasHuge}
use Rattle.pg_table.specs.declared.needs.Need.{Need}
use Rattle.pg_table.specs.declared.sizes.Axis.{Axis}
use Rattle.pg_table.specs.declared.sizes.Axis.TheVariants.{Columns, Rows}
use Rattle.pg_table.proofs.ListedSizes.{cell-below, natural-with_cells, each-fits}
use Rattle.pg_table.proofs.Widenings.{no_column_passes_its_cells, greatest-least}

-- ---- what spans that fit tell of a place: which rectangle holds it, and which size is kept for it

pub None≢Some : (u : Span) → Some u ≡ None → ⊥
None≢Some u e = false≢true (sym (ap (λ (o : Option Span). is_some o) e))

-- ---- each of some spans

pub fits-among : (rows columns : ℕ) (spans : List Span) → list_all (span_fits rows columns) spans ≡ true → (s : Span) → Among spans s → span_fits rows columns s ≡ true
fits-among rows columns [] all s m = absurd m
fits-among rows columns (t ∷ ts) all s m =
    let parts = and_parts (span_fits rows columns t) (list_all (span_fits rows columns) ts) all in
    elim m [ inl e ↦ subst (λ x. span_fits rows columns x ≡ true) e parts.0 | inr n ↦ fits-among rows columns ts parts.1 s n ]

pub all-among : {N : Type 0} (P : N → Type 0) (f : Span → N) (spans : List Span) → ((s : Span) → Among spans s → P (f s)) → All P (map f spans)
all-among P f [] h = All-nil P
all-among P f (t ∷ ts) h = All-cons P (f t) (map f ts) (h t (inl refl)) (all-among P f ts (λ s m. h s (inr m)))

pub among-all : {N : Type 0} (P : N → Type 0) (f : Span → N) (spans : List Span) → All P (map f spans) → (s : Span) → Among spans s → P (f s)
among-all P f [] all s m = absurd m
among-all P f (t ∷ ts) all s m =
    elim m [ inl e ↦ subst (λ x. P (f x)) e (All-head P (f t) (map f ts) all) | inr n ↦ among-all P f ts (All-tail P (f t) (map f ts) all) s n ]

-- ---- the size that is kept for a place

module _ (rows columns : ℕ) where
  key_holds : (s : Span) (r c : ℕ) → span_fits rows columns s ≡ true → same by_columns s.0 (column_place (at r c)) ≡ true → in_span r c s ≡ true
  key_holds s r c fits key = grind (arith, nat_tests, fits, key)

  pub none-kept : (spans : List Span) (r c : ℕ) → list_all (span_fits rows columns) spans ≡ true → find (in_span r c) spans ≡ None → value_at by_columns (column_place (at r c)) spans ≡ None
  none-kept [] r c all none = refl
  none-kept (s ∷ ss) r c all none =
      let parts = and_parts (span_fits rows columns s) (list_all (span_fits rows columns) ss) all in
      elim (cases_Bool (in_span r c s)) [
        | inl holds ↦ absurd (None≢Some s (rw holds at none))
        | inr out ↦ elim (cases_Bool (same by_columns s.0 (column_place (at r c)))) [
          | inl key ↦ absurd (false≢true (sym out ∙ key_holds s r c parts.0 key))
          | inr other ↦ rw other (none-kept ss r c parts.1 (rw out at none))
        ]
      ]

  corner_key : (s t : Span) (r c : ℕ) → s ≡ t → corner t ≡ at r c → same by_columns s.0 (column_place (at r c)) ≡ true
  corner_key s t r c e corners =
      let row : s.0.row ≡ r = ap (λ (x : Span). x.0.row) e ∙ ap (λ (p : Position). p.row) corners in
      let col : s.0.col ≡ c = ap (λ (x : Span). x.0.col) e ∙ ap (λ (p : Position). p.col) corners in
      grind (arith, nat_tests, row, col)

  pub corner-kept : (spans : List Span) (t : Span) (r c : ℕ) → list_all (span_fits rows columns) spans ≡ true → find (in_span r c) spans ≡ Some t → corner t ≡ at r c → value_at by_columns (column_place (at r c)) spans ≡ Some t.1
  corner-kept [] t r c all found corners = absurd (None≢Some t (sym found))
  corner-kept (s ∷ ss) t r c all found corners =
      let parts = and_parts (span_fits rows columns s) (list_all (span_fits rows columns) ss) all in
      elim (cases_Bool (in_span r c s)) [
        | inl holds ↦
            let e : s ≡ t = ap (λ (o : Option Span). unwrap_or o s) (rw holds at found) in
            rw (corner_key s t r c e corners) (ap (λ (x : Span). Some x.1) e)
        | inr out ↦ elim (cases_Bool (same by_columns s.0 (column_place (at r c)))) [
          | inl key ↦ absurd (false≢true (sym out ∙ key_holds s r c parts.0 key))
          | inr other ↦ rw other (corner-kept ss t r c parts.1 (rw out at found) corners)
        ]
      ]

  pub size-single : (spans : List Span) (r c : ℕ) → list_all (span_fits rows columns) spans ≡ true → find (in_span r c) spans ≡ None → size_of spans (at r c) ≡ span_size 1 1
  unfolding size_of
  size-single spans r c all none = rw (none-kept spans r c all none) refl

  pub size-corner : (spans : List Span) (t : Span) (r c : ℕ) → list_all (span_fits rows columns) spans ≡ true → find (in_span r c) spans ≡ Some t → corner t ≡ at r c → size_of spans (at r c) ≡ t.1
  unfolding size_of
  size-corner spans t r c all found corners = rw (corner-kept spans t r c all found corners) refl

-- ---- a walk along a row meets each cell without a span

pub found_some : (test : Span → Bool) (spans : List Span) (s : Span) → Among spans s → test s ≡ true → is_none (find test spans) ≡ false
found_some test [] s m h = absurd m
found_some test (t ∷ ts) s m h =
    elim (cases_Bool (test t)) [
      | inl here ↦ rw here refl
      | inr there ↦ elim m [
        | inl e ↦ absurd (false≢true (sym there ∙ subst (λ x. test x ≡ true) (sym e) h))
        | inr n ↦ rw there (found_some test ts s n h)
      ]
    ]

module _ (spans : List Span) (rows columns : ℕ) (order : InOrder spans rows columns) where
  -- a left column where the search finds nothing has a cell without a span
  single_where_none : (r x : ℕ) → is_left spans r x ≡ true → left_span spans r x ≡ None → is_single spans (at r x) ≡ true
  unfolding owner
  single_where_none r x left none =
      elim (find_cases (in_span r x) spans) [
        | inl nothing ↦ rw nothing refl
        | inr f ↦
            let own : owner spans r x ≡ corner f.0 = rw f.1 refl in
            let same : corner f.0 ≡ at r x = sym own ∙ owner_alone spans rows columns order r x left none in
            let col : f.0.0.col ≡ x = ap (λ (p : Position). p.col) same in
            absurd (None≢Some f.0 (sym (left_found spans rows columns order r x f.0 f.3 f.2 col) ∙ none))
      ]

  -- the places of a rectangle from its left column on have none
  taken_where_some : (r x y : ℕ) (s : Span) → left_span spans r x ≡ Some s → x ≤ y → y < x + s.1.columns → is_single spans (at r y) ≡ false
  taken_where_some r x y s found h l =
      let f = left_sound spans rows columns order r x s found in
      let holds : in_span r x s ≡ true = f.holds in
      let left : s.0.col ≡ x = f.left in
      let there : in_span r y s ≡ true = grind (arith, nat_tests, holds, left, h, l) in
      found_some (in_span r y) spans s f.among there

  -- so the search tells whether the place of a left column has one
  pub told : (r x : ℕ) (found : Option Span) → is_left spans r x ≡ true → found ≡ left_span spans r x → is_none found ≡ is_single spans (at r x)
  told r x found left is =
      elim (option_cases found) [
        | inl none ↦ ap (λ (o : Option Span). is_none o) none ∙ sym (single_where_none r x left (sym is ∙ none))
        | inr some ↦
            let here : left_span spans r x ≡ Some some.0 = sym is ∙ some.1 in
            let holds : in_span r x some.0 ≡ true = (left_sound spans rows columns order r x some.0 here).holds in
            let left_is : some.0.0.col ≡ x = (left_sound spans rows columns order r x some.0 here).left in
            let some_columns : x < x + some.0.1.columns = grind (arith, nat_tests, holds, left_is) in
            ap (λ (o : Option Span). is_none o) some.1 ∙ sym (taken_where_some r x x some.0 here (omega arith) some_columns)
      ]

  -- and those that a step passes have none
  pub passed : (r x y w : ℕ) → w ≡ columns_or_one (left_span spans r x) → x < y → y < x + w → is_single spans (at r y) ≡ false
  passed r x y w is h l =
      elim (option_cases (left_span spans r x)) [
        | inl none ↦ absurd (omega (arith, is, ap columns_or_one none, h, l))
        | inr some ↦ taken_where_some r x y some.0 some.1 (omega (arith, h)) (omega (arith, l, is, ap columns_or_one some.1))
      ]

-- ---- the shown cells are those without a span and the corners of spans; and when all their sizes are numbers

-- ---- which cells are shown

none_passes : (test : Span → Bool) (spans : List Span) → ((s : Span) → Among spans s → test s ≡ false) → list_any test spans ≡ false
none_passes test [] h = refl
none_passes test (t ∷ ts) h = rw (h t (inl refl)) (none_passes test ts (λ s m. h s (inr m)))

each_fails : (test : Span → Bool) (spans : List Span) (s : Span) → list_any test spans ≡ false → Among spans s → test s ≡ false
each_fails test [] s none m = absurd m
each_fails test (t ∷ ts) s none m =
    elim (cases_Bool (test t)) [
      | inl here ↦ absurd (false≢true (sym (rw here at none)))
      | inr away ↦ elim m [ inl e ↦ subst (λ x. test x ≡ false) e away | inr n ↦ each_fails test ts s (rw away at none) n ]
    ]

-- each rectangle that holds the place begins there
abbrev BeginsAt : List Span → Position → Type 0
BeginsAt spans p = (s : Span) → Among spans s → in_span p.row p.col s ≡ true → corner s ≡ p

left_alone : (a : Bool) (p : Position) (s : Span) → (in_span p.row p.col s ≡ true → a ≡ false) → (a && in_span p.row p.col s) ≡ false
left_alone a p s h = elim (cases_Bool (in_span p.row p.col s)) [ inl y ↦ rw (h y) refl | inr n ↦ rw n (grind arith) ]

pub shown-from : (spans : List Span) (p : Position) → BeginsAt spans p → is_visible spans p ≡ true
unfolding is_visible is_covered_by_column is_covered_by_row is_covered_by_both
shown-from spans p begins =
    let row = λ (s : Span) (m : Among spans s) (h : in_span p.row p.col s ≡ true). (let e : s.0.row ≡ p.row = ap (λ (q : Position). q.row) (begins s m h) in e) in
    let col = λ (s : Span) (m : Among spans s) (h : in_span p.row p.col s ≡ true). (let e : s.0.col ≡ p.col = ap (λ (q : Position). q.col) (begins s m h) in e) in
    rw (
      none_passes (λ s. ((s.0.row == p.row) && nat_lt s.0.col p.col) && in_span p.row p.col s) spans (λ s m. left_alone ((s.0.row == p.row) && nat_lt s.0.col p.col) p s (λ h. let e = col s m h in grind (arith, nat_tests, e))),
      none_passes (λ s. ((s.0.col == p.col) && nat_lt s.0.row p.row) && in_span p.row p.col s) spans (λ s m. left_alone ((s.0.col == p.col) && nat_lt s.0.row p.row) p s (λ h. let e = row s m h in grind (arith, nat_tests, e))),
      none_passes (λ s. (nat_lt s.0.row p.row && nat_lt s.0.col p.col) && in_span p.row p.col s) spans (λ s m. left_alone (nat_lt s.0.row p.row && nat_lt s.0.col p.col) p s (λ h. let e = row s m h in grind (arith, nat_tests, e))),
    ) refl

none_of_three : (a b c : Bool) → not (a || (b || c)) ≡ true → (a ≡ false) × (b ≡ false) × (c ≡ false)
none_of_three a b c h = (grind (arith, h), grind (arith, h), grind (arith, h))

begins_there : (p : Position) (s : Span) → in_span p.row p.col s ≡ true
    → (((s.0.row == p.row) && nat_lt s.0.col p.col) && in_span p.row p.col s) ≡ false
    → (((s.0.col == p.col) && nat_lt s.0.row p.row) && in_span p.row p.col s) ≡ false
    → ((nat_lt s.0.row p.row && nat_lt s.0.col p.col) && in_span p.row p.col s) ≡ false
    → (s.0.row ≡ p.row) × (s.0.col ≡ p.col)
begins_there p s h by_column by_row by_both = (grind (arith, nat_tests, h, by_column, by_row, by_both), grind (arith, nat_tests, h, by_column, by_row, by_both))

place_is : (p : Position) (r c : ℕ) → r ≡ p.row → c ≡ p.col → at r c ≡ p
place_is p r c row col = rw (row, col) refl

pub begins-shown : (spans : List Span) (p : Position) → is_visible spans p ≡ true → BeginsAt spans p
unfolding is_visible is_covered_by_column is_covered_by_row is_covered_by_both
begins-shown spans p shown s m h =
    let none = none_of_three (list_any (λ s. ((s.0.row == p.row) && nat_lt s.0.col p.col) && in_span p.row p.col s) spans)
    (list_any (λ s. ((s.0.col == p.col) && nat_lt s.0.row p.row) && in_span p.row p.col s) spans)
    (list_any (λ s. (nat_lt s.0.row p.row && nat_lt s.0.col p.col) && in_span p.row p.col s) spans) shown in
    let there = begins_there p s h
    (each_fails (λ s. ((s.0.row == p.row) && nat_lt s.0.col p.col) && in_span p.row p.col s) spans s none.0 m)
    (each_fails (λ s. ((s.0.col == p.col) && nat_lt s.0.row p.row) && in_span p.row p.col s) spans s none.1 m)
    (each_fails (λ s. (nat_lt s.0.row p.row && nat_lt s.0.col p.col) && in_span p.row p.col s) spans s none.2 m) in
    place_is p s.0.row s.0.col there.0 there.1

pub single-shown : (spans : List Span) (p : Position) → is_single spans p ≡ true → is_visible spans p ≡ true
single-shown spans p single = shown-from spans p (λ s m h. absurd (false≢true (sym (found_some (in_span p.row p.col) spans s m h) ∙ single)))

pub corner-shown : (spans : List Span) (rows columns : ℕ) → InOrder spans rows columns → (s : Span) → Among spans s → is_visible spans (corner s) ≡ true
corner-shown spans rows columns order s m =
    let room = room_among spans rows columns order s m in
    let own : in_span s.0.row s.0.col s ≡ true = grind (arith, nat_tests, room.some_rows, room.some_columns) in
    shown-from spans (corner s) (λ t n h. sym (owner_is spans rows columns order s.0.row s.0.col t n h) ∙ owner_is spans rows columns order s.0.row s.0.col s m own)

-- a shown cell has no span, or is the corner of one, which a search from the first one on finds
pub record IsCorner (spans : List Span) (p : Position) : Type 0 where
  pub span : Span
  pub among : Among spans span
  pub found : find (in_span p.row p.col) spans ≡ Some span
  pub is : corner span ≡ p

pub shown-cases : (spans : List Span) (p : Position) → is_visible spans p ≡ true → (is_single spans p ≡ true) ⊎ IsCorner spans p
shown-cases spans p shown =
    elim (find_cases (in_span p.row p.col) spans) [
      | inl none ↦ inl (rw none refl)
      | inr f ↦ inr (record { span = f.0; among = f.3; found = f.1; is = begins-shown spans p shown f.0 f.3 f.2 })
    ]

-- ---- sizes that are numbers

pub sized-from : (config : Config) (text : Position → Text) (p : Position) → cell_size Columns config text p < 2 ^ 64 → cell_size Rows config text p < 2 ^ 64 → is_sized config text p ≡ true
sized-from config text p wide high =
    let w : nat_lt (cell_size Columns config text p) (2 ^ 64) ≡ true = grind (arith, nat_tests, wide) in
    let h : nat_lt (cell_size Rows config text p) (2 ^ 64) ≡ true = grind (arith, nat_tests, high) in
    and_from _ _ w h

pub huge-unsized : (config : Config) (text : Position → Text) (p : Position) → IsHuge config text p → is_sized config text p ≡ false
huge-unsized config text p huge =
    elim huge [
      | inl wide ↦ (let w : nat_lt (cell_size Columns config text p) (2 ^ 64) ≡ false = grind (arith, nat_tests, wide) in rw w refl)
      | inr high ↦ (let h : nat_lt (cell_size Rows config text p) (2 ^ 64) ≡ false = grind (arith, nat_tests, high) in rw h (grind arith))
    ]

pub all_pass : (test : ℕ → Bool) (a n : ℕ) → ((k : ℕ) → a ≤ k → k < a + n → test k ≡ true) → list_all test (range_with_len a n) ≡ true
all_pass test a zero h = refl
all_pass test a (suc n) h = and_from (test a) (list_all test (range_with_len (a + 1) n)) (h a (omega arith) (omega arith)) (all_pass test (a + 1) n (λ k l m. h k (omega (arith, l)) (omega (arith, m))))

pub one_fails : (test : ℕ → Bool) (a n k : ℕ) → a ≤ k → k < a + n → test k ≡ false → list_all test (range_with_len a n) ≡ false
one_fails test a zero k h l fails = absurd (omega (arith, h, l))
one_fails test a (suc n) k h l fails =
    elim (cases_Bool (a == k)) [
      | inl same ↦ (let e : a ≡ k = grind (arith, nat_tests, same) in let here : test a ≡ false = ap test e ∙ fails in rw here refl)
      | inr other ↦
          let away : a + 1 ≤ k = grind (arith, nat_tests, other, h) in
          rw (one_fails test (a + 1) n k away (omega (arith, l)) fails) (grind arith)
    ]

abbrev pub fits_at : Config → (Position → Text) → ℕ → ℕ → Bool
fits_at config text r c = not (is_visible config.spans (at r c)) || is_sized config text (at r c)

module _ (config : Config) (text : Position → Text) (rows columns : ℕ) where
  pub cells-from : ((r c : ℕ) → r < rows → c < columns → is_visible config.spans (at r c) ≡ true → is_sized config text (at r c) ≡ true) → cells_fit config text rows columns ≡ true
  unfolding cells_fit
  cells-from h =
      all_pass (λ r. list_all (fits_at config text r) (range_with_len 0 columns)) 0 rows (λ r a b. all_pass (fits_at config text r) 0 columns (λ c d e.
      elim (cases_Bool (is_visible config.spans (at r c))) [
        | inl shown ↦ rw (h r c (omega (arith, b)) (omega (arith, e)) shown) (grind arith)
        | inr hidden ↦ rw hidden refl
      ]))

  pub cell-past : (r c : ℕ) → r < rows → c < columns → is_visible config.spans (at r c) ≡ true → is_sized config text (at r c) ≡ false → cells_fit config text rows columns ≡ false
  unfolding cells_fit
  cell-past r c h l shown past =
      one_fails (λ r. list_all (fits_at config text r) (range_with_len 0 columns)) 0 rows r (omega arith) (omega (arith, h))
      (one_fails (fits_at config text r) 0 columns c (omega arith) (omega (arith, l)) (rw (shown, past) refl))

  pub huge-past : HasHuge config text rows columns → cells_fit config text rows columns ≡ false
  huge-past huge =
      let r : ℕ = huge.0 in
      let c : ℕ = huge.2.0 in
      cell-past huge.0 huge.2.0 huge.1 huge.2.1 (single-shown config.spans (at huge.0 huge.2.0) huge.2.2) (huge-unsized config text (at huge.0 huge.2.0) huge.2.3)

  unsized_corner : (spans : List Span) → list_all (λ s. is_sized config text (corner s)) spans ≡ false → (s : Span) × Among spans s × (is_sized config text (corner s) ≡ false)
  unsized_corner [] none = absurd (false≢true (sym none))
  unsized_corner (t ∷ ts) none =
      elim (cases_Bool (is_sized config text (corner t))) [
        | inl sized ↦ (let rest = unsized_corner ts (rw sized at none) in (rest.0, inr rest.1, rest.2))
        | inr past ↦ (t, inl refl, past)
      ]

  pub corner-past : InOrder config.spans rows columns → list_all (λ s. is_sized config text (corner s)) config.spans ≡ false → cells_fit config text rows columns ≡ false
  corner-past order none =
      let found = unsized_corner config.spans none in
      let s : Span = found.0 in
      let room = room_among config.spans rows columns order found.0 found.1 in
      cell-past found.0.0.row found.0.0.col (omega (arith, room.some_rows, room.rows_end)) (omega (arith, room.some_columns, room.columns_end))
      (corner-shown config.spans rows columns order found.0 found.1) found.2

  sized_among : (spans : List Span) (s : Span) → list_all (λ s. is_sized config text (corner s)) spans ≡ true → Among spans s → is_sized config text (corner s) ≡ true
  sized_among [] s all m = absurd m
  sized_among (t ∷ ts) s all m =
      let parts = and_parts (is_sized config text (corner t)) (list_all (λ s. is_sized config text (corner s)) ts) all in
      elim m [ inl e ↦ subst (λ x. is_sized config text (corner x) ≡ true) e parts.0 | inr n ↦ sized_among ts s parts.1 n ]

  -- where the sizes of cells without a span and those of corners are numbers, all are
  pub cells-sized : ((r c : ℕ) → r < rows → c < columns → is_single config.spans (at r c) ≡ true → (cell_size Columns config text (at r c) < 2 ^ 64) × (cell_size Rows config text (at r c) < 2 ^ 64))
      → list_all (λ s. is_sized config text (corner s)) config.spans ≡ true → cells_fit config text rows columns ≡ true
  cells-sized singles corners =
      cells-from (λ r c h l shown. elim (shown-cases config.spans (at r c) shown) [
        | inl single ↦ (let both = singles r c h l single in sized-from config text (at r c) both.0 both.1)
        | inr f ↦ subst (λ p. is_sized config text p ≡ true) f.is (sized_among config.spans f.span corners f.among)
      ])

  -- so the sizes of corners decide where those of the others are numbers
  pub corners-decide : InOrder config.spans rows columns
      → ((r c : ℕ) → r < rows → c < columns → is_single config.spans (at r c) ≡ true → (cell_size Columns config text (at r c) < 2 ^ 64) × (cell_size Rows config text (at r c) < 2 ^ 64))
      → list_all (λ s. is_sized config text (corner s)) config.spans ≡ cells_fit config text rows columns
  corners-decide order singles =
      elim (cases_Bool (list_all (λ s. is_sized config text (corner s)) config.spans)) [
        | inl all ↦ all ∙ sym (cells-sized singles all)
        | inr past ↦ past ∙ sym (corner-past order past)
      ]

  -- those of cells without a span are, where the sizes by them are
  pub singles-sized : all_fit (map (size_of_singles Columns config text rows) (range_with_len 0 columns)) ≡ true → all_fit (map (size_of_singles Rows config text columns) (range_with_len 0 rows)) ≡ true
      → (r c : ℕ) → r < rows → c < columns → is_single config.spans (at r c) ≡ true → (cell_size Columns config text (at r c) < 2 ^ 64) × (cell_size Rows config text (at r c) < 2 ^ 64)
  singles-sized wide high r c h l single = (
    omega (arith, each-fits (size_of_singles Columns config text rows) columns wide c l, cell-below Columns config text rows c r h single),
    omega (arith, each-fits (size_of_singles Rows config text columns) rows high r h, cell-below Rows config text columns r c l single),
  )

  -- ---- what cells that fit give

  pub cell-fits : cells_fit config text rows columns ≡ true → (r c : ℕ) → r < rows → c < columns → is_visible config.spans (at r c) ≡ true → is_sized config text (at r c) ≡ true
  cell-fits all r c h l shown =
      elim (cases_Bool (is_sized config text (at r c))) [
        | inl sized ↦ sized
        | inr past ↦ absurd (false≢true (sym (cell-past r c h l shown past) ∙ all))
      ]

  pub sized-size : (axis : Axis) (p : Position) → is_sized config text p ≡ true → cell_size axis config text p < 2 ^ 64
  sized-size Columns p sized = (let w : nat_lt (cell_size Columns config text p) (2 ^ 64) ≡ true = (and_parts (nat_lt (cell_size Columns config text p) (2 ^ 64)) (nat_lt (cell_size Rows config text p) (2 ^ 64)) sized).0 in grind (arith, nat_tests, w))
  sized-size Rows p sized = (let w : nat_lt (cell_size Rows config text p) (2 ^ 64) ≡ true = (and_parts (nat_lt (cell_size Columns config text p) (2 ^ 64)) (nat_lt (cell_size Rows config text p) (2 ^ 64)) sized).1 in grind (arith, nat_tests, w))

  single-at-most : (axis : Axis) (r c : ℕ) → cells_fit config text rows columns ≡ true → r < rows → c < columns → single_size axis config text (at r c) ≤ 2 ^ 64 - 1
  single-at-most axis r c all h l =
      elim (cases_Bool (is_single config.spans (at r c))) [
        | inl single ↦ rw single (omega (arith, sized-size axis (at r c) (cell-fits all r c h l (single-shown config.spans (at r c) single))))
        | inr other ↦ rw other (omega arith)
      ]

  base-at-most : (axis : Axis) (k : ℕ) → cells_fit config text rows columns ≡ true → k < count axis rows columns → size_of_singles axis config text (count_cells axis rows columns) k ≤ 2 ^ 64 - 1
  unfolding size_of_singles
  base-at-most Columns k all h =
      greatest-least (λ j. single_size Columns config text (cell_at Columns k j)) (range_with_len 0 rows) 0 (2 ^ 64 - 1) (λ i l.
      let inside : i < rows = omega (arith, l, length-range_with_len 0 rows) in
      subst (λ j. single_size Columns config text (at j k) ≤ 2 ^ 64 - 1) (sym (get_or-range_with_len 0 rows i 0 inside ∙ zero-add i)) (single-at-most Columns i k all inside h))
  base-at-most Rows k all h =
      greatest-least (λ j. single_size Rows config text (cell_at Rows k j)) (range_with_len 0 columns) 0 (2 ^ 64 - 1) (λ i l.
      let inside : i < columns = omega (arith, l, length-range_with_len 0 columns) in
      subst (λ j. single_size Rows config text (at k j) ≤ 2 ^ 64 - 1) (sym (get_or-range_with_len 0 columns i 0 inside ∙ zero-add i)) (single-at-most Rows k i all h inside))

  corner-at-most : (axis : Axis) (s : Span) → InOrder config.spans rows columns → cells_fit config text rows columns ≡ true → Among config.spans s → cell_size axis config text (corner s) ≤ 2 ^ 64 - 1
  corner-at-most axis s order all m =
      let room = room_among config.spans rows columns order s m in
      omega (arith, sized-size axis (corner s) (cell-fits all s.0.row s.0.col (omega (arith, room.some_rows, room.rows_end)) (omega (arith, room.some_columns, room.columns_end)) (corner-shown config.spans rows columns order s m)))

  need-at-most : (axis : Axis) (s : Span) (n m : ℕ) → cell_size axis config text (corner s) ≤ m → (need_of axis config text n s).size ≤ m
  need-at-most Columns s n m h = omega (arith, h)
  need-at-most Rows s n m h = omega (arith, h)

  -- each natural size is a number, where those of all shown cells are
  pub natural-at-most : (axis : Axis) (k : ℕ) → InOrder config.spans rows columns → cells_fit config text rows columns ≡ true → 0 < count_cells axis rows columns → k < count axis rows columns → natural_size axis config text rows columns k < 2 ^ 64
  natural-at-most axis k order all some h =
      let base : ℕ → ℕ = size_of_singles axis config text (count_cells axis rows columns) in
      let needs : List Need = map (need_of axis config text (count axis rows columns)) config.spans in
      let n : ℕ = count axis rows columns in
      omega (
        arith,
        natural-with_cells axis config text rows columns k some,
        no_column_passes_its_cells base needs n k (2 ^ 64 - 1) (base-at-most axis k all h)
            (all-among (λ (need : Need). takes k need ≡ true → need.size ≤ 2 ^ 64 - 1) (need_of axis config text n) config.spans (λ s m. λ t. need-at-most axis s n (2 ^ 64 - 1) (corner-at-most axis s order all m))),
      )

-- ---- a shown place where a search from its column on finds no rectangle has a cell without a span

pub hidden-single : (spans : List Span) (p : Position) → is_visible spans p ≡ false → is_single spans p ≡ false
hidden-single spans p hidden =
    elim (cases_Bool (is_single spans p)) [
      | inl single ↦ absurd (false≢true (sym hidden ∙ single-shown spans p single))
      | inr none ↦ none
    ]

module _ (spans : List Span) (rows columns : ℕ) (order : InOrder spans rows columns) (p : Position) where
  single-finds : is_single spans p ≡ true → is_none (left_span spans p.row p.col) ≡ true
  single-finds single =
      elim (option_cases (left_span spans p.row p.col)) [
        | inl none ↦ ap (λ (o : Option Span). is_none o) none
        | inr some ↦
            let f = left_sound spans rows columns order p.row p.col some.0 some.1 in
            absurd (false≢true (sym (found_some (in_span p.row p.col) spans some.0 f.among f.holds) ∙ single))
      ]

  corner-finds : (f : IsCorner spans p) → is_none (left_span spans p.row p.col) ≡ false
  corner-finds f =
      let s : Span = f.span in
      let room = room_among spans rows columns order f.span f.among in
      let row : f.span.0.row ≡ p.row = ap (λ (q : Position). q.row) f.is in
      let col : f.span.0.col ≡ p.col = ap (λ (q : Position). q.col) f.is in
      let holds : in_span p.row p.col f.span ≡ true = grind (arith, nat_tests, row, col, room.some_rows, room.some_columns) in
      ap (λ (o : Option Span). is_none o) (left_found spans rows columns order p.row p.col f.span f.among holds col)

  corner-not_single : IsCorner spans p → is_single spans p ≡ false
  corner-not_single f = ap (λ (o : Option Span). is_none o) f.found

  pub shown-single : is_visible spans p ≡ true → is_none (left_span spans p.row p.col) ≡ is_single spans p
  shown-single shown =
      elim (shown-cases spans p shown) [
        | inl single ↦ single-finds single ∙ sym single
        | inr f ↦ corner-finds f ∙ sym (corner-not_single f)
      ]
