-- Where rectangles share no place, each place has one owner, which one search in a row or a column finds.
use Rattle.std.proofs.Common.{◌≡◌, ℕ, ◌+◌, ◌-◌, ◌<◌, ◌≤◌, Bool, true, false, ◌&&◌, ◌==◌, nat_lt, List, [], ◌∷◌, find, refl, sym, ap, ◌∙◌, arith, subst, Option, Some, None, unwrap_or, is_some, ◌⊎◌, inl, inr, ◌^◌, nat_le}
use Rattle.std.specs.List.{list_all}
use Rattle.std.proofs.lemmas.Bool.{cases_Bool, false≢true, and_parts, cases_lt, and_from}
use Rattle.std.proofs.lemmas.Bool.Decides.{nat_tests}
use Rattle.pg_layout.proofs.KeyedPlaces.{columns-laws, before-comes, each-both, each-all, last-is, behind-stay, none-before}
use Rattle.pg_config.specs.declared.spans.SpanSize.{SpanSize}
use Rattle.pg_layout.specs.declared.position.ColumnPlace.{ColumnPlace}
use Rattle.pg_layout.specs.Keys.{by_columns, column_place}
use Rattle.pg_layout.specs.declared.position.Position.{Position}
use Rattle.pg_layout.specs.Position.{at}
use Rattle.pg_layout.specs.Places.{same, before, comes, value_at, last_up_to, Each, IsAscending, last_before, next_from}
use Rattle.pg_config.specs.Spans.{Span, corner, in_span, owner, is_left, begins_above, same_owner, left_span, size_of, span_size}
use Rattle.pg_picture.specs.Inside.{columns_or_one, HasEnd, is_past, columns_apart, rows_apart, apart_right, ends_above, apart_at}
use Rattle.pg_picture.specs.Fits.{are_apart, all_apart, span_fits, spans_fit, span_fits_columns}
use Rattle.std.specs.Cmp.{both_ways}
use Rattle.std.specs.Option.{IfSome}

-- ---- where rectangles share no place, each place has one owner, and one search finds it at the left columns of a row

-- a span is among these
abbrev pub Among : List Span → Span → Type 0
Among [] s = ⊥
Among (t ∷ ts) s = (t ≡ s) ⊎ Among ts s

-- spans in their order, of which each has a size and ends inside the table, and no two share a place
pub record InOrder (spans : List Span) (rows columns : ℕ) : Type 0 where
  pub ascending : IsAscending by_columns spans
  pub fit : spans_fit spans rows columns ≡ true

-- ---- spans that fit

Each-among : (P : Span → Type 0) (spans : List Span) (s : Span) → Each P spans → Among spans s → P s
Each-among P [] s all m = absurd m
Each-among P (t ∷ ts) s all m = elim m [ inl e ↦ subst P e all.0 | inr n ↦ Each-among P ts s all.1 n ]

test_among : (test : Span → Bool) (spans : List Span) (s : Span) → list_all test spans ≡ true → Among spans s → test s ≡ true
test_among test [] s all m = absurd m
test_among test (t ∷ ts) s all m =
    let parts = and_parts (test t) (list_all test ts) all in
    elim m [ inl e ↦ subst (λ x. test x ≡ true) e parts.0 | inr n ↦ test_among test ts s parts.1 n ]

apart_share_none : (s t : Span) (r c : ℕ) → are_apart s t ≡ true → in_span r c s ≡ true → in_span r c t ≡ true → ⊥
apart_share_none s t r c h hs ht = grind (arith, nat_tests, h, hs, ht)

-- two rectangles with one place are one
one_rectangle : (spans : List Span) (s t : Span) (r c : ℕ) → all_apart spans ≡ true → Among spans s → Among spans t → in_span r c s ≡ true → in_span r c t ≡ true → s ≡ t
one_rectangle [] s t r c all m n hs ht = absurd m
one_rectangle (x ∷ xs) s t r c all m n hs ht =
    let parts = and_parts (list_all (are_apart x) xs) (all_apart xs) all in
    elim m [
      | inl e ↦ elim n [
        | inl f ↦ sym e ∙ f
        | inr g ↦ absurd (apart_share_none x t r c (test_among (are_apart x) xs t parts.0 g) (subst (λ y. in_span r c y ≡ true) (sym e) hs) ht)
      ]
      | inr k ↦ elim n [
        | inl f ↦ absurd (apart_share_none x s r c (test_among (are_apart x) xs s parts.0 k) (subst (λ y. in_span r c y ≡ true) (sym f) ht) hs)
        | inr g ↦ one_rectangle xs s t r c parts.1 k g hs ht
      ]
    ]

-- the size of a rectangle, and its ends inside the table
pub record HasRoom (rows columns : ℕ) (s : Span) : Type 0 where
  pub some_rows : 0 < s.1.rows
  pub some_columns : 0 < s.1.columns
  pub columns_end : s.0.col + s.1.columns ≤ columns
  pub rows_end : s.0.row + s.1.rows ≤ rows

room_of : (rows columns : ℕ) (s : Span) → span_fits rows columns s ≡ true → HasRoom rows columns s
room_of rows columns s h = record { some_rows = grind (arith, nat_tests, h); some_columns = grind (arith, nat_tests, h); columns_end = grind (arith, nat_tests, h); rows_end = grind (arith, nat_tests, h) }

-- ---- the search

pub option_cases : (o : Option Span) → (o ≡ None) ⊎ ((u : Span) × (o ≡ Some u))
option_cases None = inl refl
option_cases (Some u) = inr (u, refl)

None≢Some : (u : Span) → None ≡ Some u → ⊥
None≢Some u e = false≢true (ap (λ (o : Option Span). is_some o) e)

-- what the search finds is there, and comes up to k
last_facts : (k : ColumnPlace) (spans : List Span) (u : Span) → last_up_to by_columns k spans ≡ Some u → Among spans u × (comes by_columns true u.0 k ≡ true)
last_facts k [] u e = absurd (None≢Some u e)
last_facts k (t ∷ ts) u e =
    elim (cases_Bool (comes by_columns true t.0 k)) [
      | inr n ↦ absurd (None≢Some u (rw n at e))
      | inl y ↦
          let is = (rw y at e) in
          elim (option_cases (last_up_to by_columns k ts)) [
            | inl none ↦ let same_one : t ≡ u = ap (λ o. unwrap_or o t) (rw none at is) in (inl same_one, subst (λ (x : Span). comes by_columns true x.0 k ≡ true) same_one y)
            | inr some ↦
                let same_one : some.0 ≡ u = ap (λ o. unwrap_or o t) (rw some.1 at is) in
                let more = last_facts k ts u (some.1 ∙ ap (λ x. Some x) same_one) in
                (inr more.0, more.1)
          ]
    ]

-- and it is not before another that comes up to k
last_exists : (k : ColumnPlace) (spans : List Span) (s : Span) → IsAscending by_columns spans → Among spans s → comes by_columns true s.0 k ≡ true → (u : Span) × (last_up_to by_columns k spans ≡ Some u) × (before by_columns u.0 s.0 ≡ false)
last_exists k [] s up m h = absurd m
last_exists k (t ∷ ts) s up m h =
    elim m [
      | inl e ↦
          let here : comes by_columns true t.0 k ≡ true = subst (λ (x : Span). comes by_columns true x.0 k ≡ true) (sym e) h in
          elim (option_cases (last_up_to by_columns k ts)) [
            | inl none ↦ (t, rw (here, none) refl, subst (λ (x : Span). before by_columns t.0 x.0 ≡ false) e (grind (arith, nat_tests)))
            | inr some ↦
                let less : before by_columns t.0 some.0.0 ≡ true = Each-among (λ f. before by_columns t.0 f.0 ≡ true) ts some.0 up.0 (last_facts k ts some.0 some.1).0 in
                (some.0, rw (here, some.1) refl, subst (λ (x : Span). before by_columns some.0.0 x.0 ≡ false) e (grind (arith, nat_tests, less)))
          ]
      | inr n ↦
          let less : before by_columns t.0 s.0 ≡ true = Each-among (λ f. before by_columns t.0 f.0 ≡ true) ts s up.0 n in
          let here : comes by_columns true t.0 k ≡ true = before-comes columns-laws true t.0 s.0 k less h in
          let more = last_exists k ts s up.1 n h in
          (more.0, rw (here, more.1) refl, more.2)
    ]

pub find_cases : (test : Span → Bool) (spans : List Span) → (find test spans ≡ None) ⊎ ((s : Span) × (find test spans ≡ Some s) × (test s ≡ true) × Among spans s)
find_cases test [] = inl refl
find_cases test (t ∷ ts) =
    elim (cases_Bool (test t)) [
      | inl y ↦ inr (t, rw y refl, y, inl refl)
      | inr n ↦ elim (find_cases test ts) [ inl none ↦ inl (rw n none) | inr f ↦ inr (f.0, rw n f.1, f.2, inr f.3) ]
    ]

find_none : (test : Span → Bool) (spans : List Span) (s : Span) → find test spans ≡ None → Among spans s → test s ≡ true → ⊥
find_none test [] s e m h = m
find_none test (t ∷ ts) s e m h =
    elim (cases_Bool (test t)) [
      | inl y ↦ None≢Some t (sym (rw y at e))
      | inr n ↦ elim m [ inl same_one ↦ false≢true (sym n ∙ subst (λ x. test x ≡ true) (sym same_one) h) | inr more ↦ find_none test ts s (rw n at e) more h ]
    ]

value_among : (k : ColumnPlace) (spans : List Span) (v : SpanSize) → value_at by_columns k spans ≡ Some v → (s : Span) × Among spans s × (same by_columns s.0 k ≡ true) × (s.1 ≡ v)
value_among k [] v e = absurd (false≢true (ap (λ (o : Option SpanSize). is_some o) e))
value_among k (t ∷ ts) v e =
    elim (cases_Bool (same by_columns t.0 k)) [
      | inl y ↦ (t, inl refl, y, ap (λ (o : Option SpanSize). unwrap_or o v) (rw y at e))
      | inr n ↦ let more = value_among k ts v (rw n at e) in (more.0, inr more.1, more.2, more.3)
    ]

none_among : (k : ColumnPlace) (spans : List Span) (s : Span) → value_at by_columns k spans ≡ None → Among spans s → same by_columns s.0 k ≡ true → ⊥
none_among k [] s e m h = m
none_among k (t ∷ ts) s e m h =
    elim (cases_Bool (same by_columns t.0 k)) [
      | inl y ↦ false≢true (sym (ap (λ (o : Option SpanSize). is_some o) (rw y at e)))
      | inr n ↦ elim m [ inl same_one ↦ false≢true (sym n ∙ subst (λ (x : Span). same by_columns x.0 k ≡ true) (sym same_one) h) | inr more ↦ none_among k ts s (rw n at e) more h ]
    ]

size_cases : (o : Option SpanSize) → (o ≡ None) ⊎ ((v : SpanSize) × (o ≡ Some v))
size_cases None = inl refl
size_cases (Some v) = inr (v, refl)

-- an owner stands no further right than its places
owner_col-le : (spans : List Span) (r c : ℕ) → (owner spans r c).col ≤ c
unfolding owner
owner_col-le spans r c =
    elim (find_cases (in_span r c) spans) [ inl none ↦ rw none (omega arith) | inr f ↦ rw f.1 (grind (arith, nat_tests, f.2)) ]

module _ (spans : List Span) (rows columns : ℕ) (order : InOrder spans rows columns) where
  apart : (s t : Span) (r c : ℕ) → Among spans s → Among spans t → in_span r c s ≡ true → in_span r c t ≡ true → s ≡ t
  unfolding spans_fit
  apart s t r c m n hs ht = one_rectangle spans s t r c (and_parts (list_all (span_fits rows columns) spans) (all_apart spans) order.fit).1 m n hs ht

  pub room_among : (s : Span) → Among spans s → HasRoom rows columns s
  unfolding spans_fit
  room_among s m = room_of rows columns s (test_among (span_fits rows columns) spans s (and_parts (list_all (span_fits rows columns) spans) (all_apart spans) order.fit).0 m)

  -- a rectangle owns each of its places
  pub owner_is : (r c : ℕ) (s : Span) → Among spans s → in_span r c s ≡ true → owner spans r c ≡ corner s
  unfolding owner
  owner_is r c s m h =
      elim (find_cases (in_span r c) spans) [
        | inl none ↦ absurd (find_none (in_span r c) spans s none m h)
        | inr f ↦ rw f.1 (ap (λ (x : Span). corner x) (apart f.0 s r c f.3 m f.2 h))
      ]

  -- the search finds the rectangle of a left column
  pub left_found : (r c : ℕ) (s : Span) → Among spans s → in_span r c s ≡ true → s.0.col ≡ c → left_span spans r c ≡ Some s
  left_found r c s m h e =
      let comes_up : comes by_columns true s.0 (column_place (at r c)) ≡ true = grind (arith, nat_tests, h, e) in
      let t = last_exists (column_place (at r c)) spans s order.ascending m comes_up in
      let facts = last_facts (column_place (at r c)) spans t.0 t.1 in
      let room = room_among t.0 facts.0 in
      let in_s : in_span t.0.0.row c s ≡ true = grind (arith, nat_tests, h, e, facts.1, t.2) in
      let in_t : in_span t.0.0.row c t.0 ≡ true = grind (arith, nat_tests, h, e, facts.1, t.2, room.some_rows, room.some_columns) in
      let one : s ≡ t.0 = apart s t.0 t.0.0.row c m facts.0 in_s in_t in
      let test : ((s.0.col == c) && in_span r c s) ≡ true = grind (arith, nat_tests, h, e) in
      let test_t : ((t.0.0.col == c) && in_span r c t.0) ≡ true = subst (λ (x : Span). ((x.0.col == c) && in_span r c x) ≡ true) one test in
      rw (t.1, test_t) (ap (λ x. Some x) (sym one))

  -- and nothing else
  pub record Found (r c : ℕ) (s : Span) : Type 0 where
    pub among : Among spans s
    pub holds : in_span r c s ≡ true
    pub left : s.0.col ≡ c

  pub left_sound : (r c : ℕ) (s : Span) → left_span spans r c ≡ Some s → Found r c s
  left_sound r c s e =
      elim (option_cases (last_up_to by_columns (column_place (at r c)) spans)) [
        | inl none ↦ absurd (None≢Some s (rw none at e))
        | inr some ↦
            let is = (rw some.1 at e) in
            let facts = last_facts (column_place (at r c)) spans some.0 some.1 in
            elim (cases_Bool ((some.0.0.col == c) && in_span r c some.0)) [
              | inl y ↦
                  let same_one : some.0 ≡ s = ap (λ o. unwrap_or o some.0) (rw y at is) in
                  let both : in_span r c some.0 ≡ true = grind (arith, nat_tests, y) in
                  let left : some.0.0.col ≡ c = grind (arith, nat_tests, y) in
                  record { among = subst (λ x. Among spans x) same_one facts.0; holds = subst (λ x. in_span r c x ≡ true) same_one both; left = subst (λ (x : Span). x.0.col ≡ c) same_one left }
              | inr n ↦ absurd (None≢Some s (rw n at is))
            ]
      ]

  -- how many columns from x on have the owner of x, if x is its left column
  abbrev pub step : ℕ → ℕ → ℕ
  step r x = columns_or_one (left_span spans r x)

  pub step_positive : (r x : ℕ) → 0 < step r x
  step_positive r x =
      elim (option_cases (left_span spans r x)) [
        | inl none ↦ rw none (omega arith)
        | inr some ↦ let f = left_sound r x some.0 some.1 in rw some.1 (room_among some.0 f.among).some_columns
      ]

  pub step_inside : (r x : ℕ) → x < columns → x + step r x ≤ columns
  step_inside r x h =
      elim (option_cases (left_span spans r x)) [
        | inl none ↦ rw none (omega (arith, h))
        | inr some ↦ let f = left_sound r x some.0 some.1 in rw some.1 (omega (arith, (room_among some.0 f.among).columns_end, f.left))
      ]

  -- the columns up to the next step have the same owner
  inner_owner : (r x y : ℕ) → x ≤ y → y < x + step r x → owner spans r y ≡ owner spans r x
  inner_owner r x y h k =
      elim (option_cases (left_span spans r x)) [
        | inl none ↦ let near : y < x + 1 = (rw none at k) in ap (λ z. owner spans r z) (omega (arith, h, near))
        | inr some ↦
            let near : y < x + some.0.1.columns = (rw some.1 at k) in
            let f = left_sound r x some.0 some.1 in
            let there : in_span r y some.0 ≡ true = grind (arith, nat_tests, f.holds, f.left, h, near) in
            owner_is r y some.0 f.among there ∙ sym (owner_is r x some.0 f.among f.holds)
      ]

  left_from : (r x : ℕ) (t : Span) → Among spans t → in_span r x t ≡ true → is_left spans r x ≡ true → t.0.col ≡ x
  unfolding is_left
  left_from r x t m there left = let l : (t.0.col == x) ≡ true = (rw (owner_is r x t m there) at left) in grind (arith, nat_tests, l)

  overlap : (r x : ℕ) (t : Span) → is_left spans r x ≡ true → Among spans t → in_span r (x + step r x) t ≡ true → (t.0.col == (x + step r x)) ≡ false → ⊥
  overlap r x t left m h n =
      elim (option_cases (left_span spans r x)) [
        | inl none ↦
            let h1 : in_span r (x + 1) t ≡ true = (rw none at h) in
            let n1 : (t.0.col == (x + 1)) ≡ false = (rw none at n) in
            let there : in_span r x t ≡ true = grind (arith, nat_tests, h1, n1) in
            None≢Some t (sym none ∙ left_found r x t m there (left_from r x t m there left))
        | inr some ↦
            let f = left_sound r x some.0 some.1 in
            let room = room_among some.0 f.among in
            let h1 : in_span r (x + some.0.1.columns) t ≡ true = (rw some.1 at h) in
            let n1 : (t.0.col == (x + some.0.1.columns)) ≡ false = (rw some.1 at n) in
            let in_s : in_span r (x + some.0.1.columns - 1) some.0 ≡ true = grind (arith, nat_tests, f.holds, f.left, room.some_columns) in
            let in_t : in_span r (x + some.0.1.columns - 1) t ≡ true = grind (arith, nat_tests, h1, n1, room.some_columns) in
            let one = apart some.0 t r (x + some.0.1.columns - 1) f.among m in_s in_t in
            let outside : in_span r (x + some.0.1.columns) some.0 ≡ false = grind (arith, nat_tests, f.left) in
            false≢true (sym outside ∙ subst (λ s. in_span r (x + some.0.1.columns) s ≡ true) (sym one) h1)
      ]

  -- a column that no rectangle holds is a left one
  left_where_none : (r z : ℕ) → find (in_span r z) spans ≡ None → is_left spans r z ≡ true
  unfolding is_left owner
  left_where_none r z none = rw none (grind (arith, nat_tests))

  left_where_some : (r z : ℕ) (s : Span) → find (in_span r z) spans ≡ Some s → (s.0.col == z) ≡ true → is_left spans r z ≡ true
  unfolding is_left owner
  left_where_some r z s some y = rw some y

  -- and the column after them is a left one again
  pub next_left : (r x : ℕ) → is_left spans r x ≡ true → is_left spans r (x + step r x) ≡ true
  next_left r x left =
      elim (find_cases (in_span r (x + step r x)) spans) [
        | inl none ↦ left_where_none r (x + step r x) none
        | inr f ↦ elim (cases_Bool (f.0.0.col == (x + step r x))) [
          | inl y ↦ left_where_some r (x + step r x) f.0 f.1 y
          | inr n ↦ absurd (overlap r x f.0 left f.3 f.2 n)
        ]
      ]

  -- a row begins with a left column
  pub first_left : (r : ℕ) → is_left spans r 0 ≡ true
  first_left r =
      elim (find_cases (in_span r 0) spans) [
        | inl none ↦ left_where_none r 0 none
        | inr f ↦ left_where_some r 0 f.0 f.1 (grind (arith, nat_tests, f.2))
      ]

  left_of : (r x : ℕ) → is_left spans r x ≡ true → (owner spans r x).col ≡ x
  unfolding is_left
  left_of r x left = grind (arith, nat_tests, left)

  pub record Inner (r x y : ℕ) : Type 0 where
    pub not_left : is_left spans r y ≡ false
    pub one_owner : same_owner spans r (y - 1) y ≡ true
    pub above : begins_above spans r y ≡ begins_above spans r x

  -- inside a rectangle: no left column, and one owner with the column before
  pub inner : (r x y : ℕ) → is_left spans r x ≡ true → x < y → y < x + step r x → Inner r x y
  unfolding is_left same_owner begins_above
  inner r x y left h k =
      let this = inner_owner r x y (omega (arith, h)) k in
      let before_it = inner_owner r x (y - 1) (omega (arith, h)) (omega (arith, h, k)) in
      record {
        not_left = rw this (grind (arith, nat_tests, left, h));
        one_owner = rw (this, before_it) (grind (arith, nat_tests));
        above = ap (λ (o : Position). nat_lt o.row r) this;
      }

  -- the owner of a left column is what the search finds there, or the place itself
  pub owner_found : (r x : ℕ) (s : Span) → left_span spans r x ≡ Some s → owner spans r x ≡ corner s
  owner_found r x s e = let f = left_sound r x s e in owner_is r x s f.among f.holds

  pub owner_alone : (r x : ℕ) → is_left spans r x ≡ true → left_span spans r x ≡ None → owner spans r x ≡ at r x
  unfolding owner
  owner_alone r x left none =
      elim (find_cases (in_span r x) spans) [
        | inl nothing ↦ rw nothing refl
        | inr f ↦ absurd (None≢Some f.0 (sym none ∙ left_found r x f.0 f.3 f.2 (left_from r x f.0 f.3 f.2 left)))
      ]

  -- a place whose search finds nothing takes one row and one column
  pub size_alone : (r x : ℕ) → left_span spans r x ≡ None → size_of spans (at r x) ≡ span_size 1 1
  unfolding size_of
  size_alone r x none =
      elim (size_cases (value_at by_columns (column_place (at r x)) spans)) [
        | inl nothing ↦ rw nothing refl
        | inr v ↦
            let s = value_among (column_place (at r x)) spans v.0 v.1 in
            let room = room_among s.0 s.1 in
            let there : in_span r x s.0 ≡ true = grind (arith, nat_tests, s.2, room.some_rows, room.some_columns) in
            let left : s.0.0.col ≡ x = grind (arith, nat_tests, s.2) in
            absurd (None≢Some s.0 (sym none ∙ left_found r x s.0 s.1 there left))
      ]

  -- the column before a left one has another owner
  pub not_inside : (r x : ℕ) → is_left spans r x ≡ true → 0 < x → same_owner spans r (x - 1) x ≡ false
  unfolding same_owner
  not_inside r x left h =
      let own = left_of r x left in
      let other : (owner spans r (x - 1)).col ≤ x - 1 = owner_col-le spans r (x - 1) in
      grind (arith, nat_tests, own, other, h)

  -- the size of a rectangle is found at its corner
  pub size_of_corner : (s : Span) → Among spans s → size_of spans (corner s) ≡ s.1
  unfolding size_of
  size_of_corner s m =
      let its : same by_columns s.0 (column_place (corner s)) ≡ true = grind (arith, nat_tests) in
      elim (size_cases (value_at by_columns (column_place (corner s)) spans)) [
        | inl nothing ↦ absurd (none_among (column_place (corner s)) spans s nothing m its)
        | inr v ↦
            let u = value_among (column_place (corner s)) spans v.0 v.1 in
            let mine = room_among s m in
            let other = room_among u.0 u.1 in
            let in_s : in_span s.0.row s.0.col s ≡ true = grind (arith, nat_tests, mine.some_rows, mine.some_columns) in
            let in_u : in_span s.0.row s.0.col u.0 ≡ true = grind (arith, nat_tests, other.some_rows, other.some_columns, u.2) in
            let one : u.0 ≡ s = apart u.0 s s.0.row s.0.col u.1 m in_u in_s in
            rw v.1 (sym u.3 ∙ ap (λ (x : Span). x.1) one)
      ]

-- ---- rectangles are apart where in each column each ends above the next one, and one search in each column that a rectangle reaches finds none
-- beside it

-- ---- lists

each_passes : (p : Span → Bool) (ss : List Span) → list_all p ss ≡ true → Each (λ s. p s ≡ true) ss
each_passes p [] h = tt
each_passes p (s ∷ ss) h = let parts = and_parts (p s) (list_all p ss) h in (parts.0, each_passes p ss parts.1)

passes_each : (p : Span → Bool) (ss : List Span) → Each (λ s. p s ≡ true) ss → list_all p ss ≡ true
passes_each p [] all = refl
passes_each p (s ∷ ss) all = and_from (p s) (list_all p ss) all.0 (passes_each p ss all.1)

each_of : {P Q : Span → Type 0} (ss : List Span) → ((s : Span) → P s → Q s) → Each P ss → Each Q ss
each_of [] f all = tt
each_of (s ∷ ss) f all = (f s all.0, each_of ss f all.1)

-- ---- what fits a table

has_end : (columns : ℕ) (s : Span) → columns < 2 ^ 64 → span_fits_columns columns s ≡ true → HasEnd s
has_end columns s few h = (grind (arith, nat_tests, h), grind (arith, nat_tests, h), grind (arith, nat_tests, h, few))

pub have_ends_columns : (columns : ℕ) (ss : List Span) → columns < 2 ^ 64 → list_all (span_fits_columns columns) ss ≡ true → Each HasEnd ss
have_ends_columns columns [] few h = tt
have_ends_columns columns (s ∷ ss) few h =
    let parts = and_parts (span_fits_columns columns s) (list_all (span_fits_columns columns) ss) h in
    (has_end columns s few parts.0, have_ends_columns columns ss few parts.1)

pub have_ends : (rows columns : ℕ) (ss : List Span) → columns < 2 ^ 64 → list_all (span_fits rows columns) ss ≡ true → Each HasEnd ss
have_ends rows columns [] few h = tt
have_ends rows columns (s ∷ ss) few h =
    let parts = and_parts (span_fits rows columns s) (list_all (span_fits rows columns) ss) h in
    (has_end columns s few (and_parts (span_fits_columns columns s) (nat_le (s.0.row + s.1.rows) rows) parts.0).0, have_ends rows columns ss few parts.1)

-- ---- one column

-- what a rectangle is past, those behind the next one are past too
past_more : (s t : Span) (ss : List Span) → before by_columns s.0 t.0 ≡ true → is_past (Some s) t ≡ true → Each (λ u. before by_columns t.0 u.0 ≡ true) ss → Each (λ u. is_past (Some t) u ≡ true) ss → Each (λ u. is_past (Some s) u ≡ true) ss
past_more s t [] h p up all = tt
past_more s t (u ∷ ss) h p up all = (grind (arith, nat_tests, h, p, up.0, all.0), past_more s t ss h p up.1 all.1)

-- so each one of a column ends above all that follow there
past_all : (s : Span) (ss : List Span) → IsAscending by_columns (s ∷ ss) → columns_apart (Some s) ss ≡ true → Each (λ t. is_past (Some s) t ≡ true) ss
past_all s [] up h = tt
past_all s (t ∷ ss) up h =
    let parts = and_parts (is_past (Some s) t) (columns_apart (Some t) ss) h in
    (parts.0, past_more s t ss up.0.0 parts.0 up.1.0 (past_all t ss up.1 parts.1))

-- the first of them can be left out
columns_rest : (a : Option Span) (ss : List Span) → columns_apart a ss ≡ true → columns_apart None ss ≡ true
columns_rest a [] h = refl
columns_rest a (s ∷ ss) h = (and_parts (is_past a s) (columns_apart (Some s) ss) h).1

-- ---- one search in a column

-- in column d, those that begin above row e end above row r
abbrev Ends : ℕ → ℕ → ℕ → Span → Type 0
Ends d e r t = (t.0.col == d) ≡ true → nat_lt t.0.row e ≡ true → nat_le (t.0.row + t.1.rows) r ≡ true

ends_behind : (d e r : ℕ) (ss : List Span) → Each (λ t. before by_columns t.0 (column_place (at e d)) ≡ false) ss → Each (Ends d e r) ss
ends_behind d e r [] all = tt
ends_behind d e r (t ∷ ss) all = ((λ c b. absurd (false≢true (sym all.0 ∙ grind (arith, nat_tests, c, b)))), ends_behind d e r ss all.1)

-- where the last of them does, all do
ends_all : (s : Span) (d e : ℕ) (ss : List Span) → IsAscending by_columns ss → columns_apart None ss ≡ true → ends_above s d (last_before by_columns (column_place (at e d)) ss) ≡ true → Each (Ends d e s.0.row) ss
ends_all s d e [] up h w = tt
ends_all s d e (t ∷ ss) up h w =
    elim (cases_Bool (before by_columns t.0 (column_place (at e d)))) [
      | inr n ↦ ends_behind d e s.0.row (t ∷ ss) (n, behind-stay columns-laws (column_place (at e d)) t ss n up.0)
      | inl y ↦ step (ends_all s d e ss up.1 (columns_rest (Some t) ss h)) (last_before by_columns (column_place (at e d)) ss) refl (last-is by_columns (λ u. (before by_columns t.0 u.0 ≡ true) × (is_past (Some t) u ≡ true)) (column_place (at e d)) ss (each-both (λ u. before by_columns t.0 u.0 ≡ true) (λ u. is_past (Some t) u ≡ true) ss up.0 (past_all t ss up h))) (rw y at w)
    ]
  where
    step : (ends_above s d (last_before by_columns (column_place (at e d)) ss) ≡ true → Each (Ends d e s.0.row) ss) → (o : Option Span) → last_before by_columns (column_place (at e d)) ss ≡ o → IfSome o (λ u. ((before by_columns t.0 u.0 ≡ true) × (is_past (Some t) u ≡ true)) × (before by_columns u.0 (column_place (at e d)) ≡ true)) → ends_above s d (Some (unwrap_or o t)) ≡ true → Each (Ends d e s.0.row) (t ∷ ss)
    step more None is some v = ((λ c b. grind (arith, nat_tests, c, v)), ends_behind d e s.0.row ss (none-before columns-laws (column_place (at e d)) ss up.1 is))
    step more (Some u) is some v =
        ((λ c b. grind (arith, nat_tests, c, v, some.0.0, some.0.1, some.1)), more (ap (λ o. ends_above s d o) is ∙ v))

-- t is apart from s where it begins in column d
abbrev ApartIn : Span → ℕ → Span → Type 0
ApartIn s d t = (t.0.col == d) ≡ true → are_apart s t ≡ true

apart_from_ends : (s : Span) (d : ℕ) (ss : List Span) → Each (Ends d (s.0.row + s.1.rows) s.0.row) ss → Each (ApartIn s d) ss
apart_from_ends s d [] all = tt
apart_from_ends s d (t ∷ ss) all = ((λ c. elim (cases_Bool (nat_lt t.0.row (s.0.row + s.1.rows))) [ inl y ↦ let above = all.0 c y in grind (arith, nat_tests, above) | inr n ↦ grind (arith, nat_tests, n) ]), apart_from_ends s d ss all.1)

-- so where one search in a column finds nothing beside a rectangle, all that begin there are apart from it
apart_in_column : (s : Span) (d : ℕ) (ss : List Span) → IsAscending by_columns ss → columns_apart None ss ≡ true → apart_at ss s d ≡ true → Each (ApartIn s d) ss
apart_in_column s d ss up h w = apart_from_ends s d ss (ends_all s d (s.0.row + s.1.rows) ss up h w)

-- and the search finds nothing where they are
search_from_apart : (s : Span) (d : ℕ) (ss : List Span) → HasEnd s → Each HasEnd ss → s.0.col < d → d < s.0.col + s.1.columns → Each (ApartIn s d) ss → apart_at ss s d ≡ true
search_from_apart s d ss end ends left right all = test (last_before by_columns (column_place (at (s.0.row + s.1.rows) d)) ss) (last-is by_columns (λ t. HasEnd t × ApartIn s d t) (column_place (at (s.0.row + s.1.rows) d)) ss (each-both HasEnd (ApartIn s d) ss ends all))
  where
    test : (o : Option Span) → IfSome o (λ t. (HasEnd t × ApartIn s d t) × (before by_columns t.0 (column_place (at (s.0.row + s.1.rows) d)) ≡ true)) → ends_above s d o ≡ true
    test None some = refl
    test (Some t) some =
        elim (cases_Bool (t.0.col == d)) [
          | inl y ↦ let is = some.0.1 y in grind (arith, nat_tests, y, is, some.0.0.0, some.0.0.1, some.1, left, right, end.0, end.1)
          | inr n ↦ rw n refl
        ]

-- ---- the key of that search

-- the last one before a key is also the last before an earlier key that it stands before
last_earlier : (j k : ColumnPlace) (ss : List Span) → IsAscending by_columns ss → before by_columns j k ≡ true → IfSome (last_before by_columns k ss) (λ t. before by_columns t.0 j ≡ true) → last_before by_columns j ss ≡ last_before by_columns k ss
last_earlier j k [] up h some = refl
last_earlier j k (s ∷ ss) up h some =
    elim (cases_Bool (before by_columns s.0 k)) [
      | inr n ↦ let o : before by_columns s.0 j ≡ false = grind (arith, nat_tests, n, h) in rw (n, o) refl
      | inl y ↦ step (last_earlier j k ss up.1 h) (last_before by_columns k ss) refl (last-is by_columns (λ t. before by_columns s.0 t.0 ≡ true) k ss up.0) y (rw y at some)
    ]
  where
    step : (IfSome (last_before by_columns k ss) (λ t. before by_columns t.0 j ≡ true) → last_before by_columns j ss ≡ last_before by_columns k ss) → (o : Option Span) → last_before by_columns k ss ≡ o → IfSome o (λ t. (before by_columns s.0 t.0 ≡ true) × (before by_columns t.0 k ≡ true)) → before by_columns s.0 k ≡ true → before by_columns (unwrap_or o s).0 j ≡ true → last_before by_columns j (s ∷ ss) ≡ last_before by_columns k (s ∷ ss)
    step more None is below y z =
        let rest : last_before by_columns j ss ≡ last_before by_columns k ss = more (rw is tt) in
        rw (y, z, rest) refl
    step more (Some t) is below y z =
        let rest : last_before by_columns j ss ≡ last_before by_columns k ss = more (rw is z) in
        let w : before by_columns s.0 j ≡ true = columns-laws.trans s.0 t.0 j below.0 z in
        rw (y, w, rest) refl

-- so where the row below the end of s is no number of 64 bits, the search may begin with the next column
last_of_column : (s : Span) (d : ℕ) (p : Position) (ss : List Span) → IsAscending by_columns ss → (s.0.row + s.1.rows < 2 ^ 64 → p ≡ at (s.0.row + s.1.rows) d) → (2 ^ 64 ≤ s.0.row + s.1.rows → p ≡ at 0 (d + 1)) → IfSome (last_before by_columns (column_place p) ss) (λ t. t.0.row < 2 ^ 64) → last_before by_columns (column_place (at (s.0.row + s.1.rows) d)) ss ≡ last_before by_columns (column_place p) ss
last_of_column s d p ss up small great some =
    elim (cases_lt (s.0.row + s.1.rows) (2 ^ 64)) [ inl y ↦ ap (λ q. last_before by_columns (column_place q) ss) (sym (small y)) | inr n ↦ behind (column_place p) (ap column_place (great n)) n some ]
  where
    behind : (k : ColumnPlace) → k ≡ (column_place (at 0 (d + 1))) → 2 ^ 64 ≤ s.0.row + s.1.rows → IfSome (last_before by_columns k ss) (λ t. t.0.row < 2 ^ 64) → last_before by_columns (column_place (at (s.0.row + s.1.rows) d)) ss ≡ last_before by_columns k ss
    behind k is y few =
        let earlier : before by_columns (column_place (at (s.0.row + s.1.rows) d)) k ≡ true = rw is (grind (arith, nat_tests)) in
        last_earlier (column_place (at (s.0.row + s.1.rows) d)) k ss up earlier (low (last_before by_columns k ss) few (last-is by_columns (λ t. t ≡ t) k ss (each-all (λ t. t ≡ t) (λ t. refl) ss)))
      where
        low : (o : Option Span) → IfSome o (λ t. t.0.row < 2 ^ 64) → IfSome o (λ t. (t ≡ t) × (before by_columns t.0 k ≡ true)) → IfSome o (λ t. before by_columns t.0 (column_place (at (s.0.row + s.1.rows) d)) ≡ true)
        low None a b = tt
        low (Some t) a b = let h : before by_columns t.0 (column_place (at 0 (d + 1))) ≡ true = subst (λ q. before by_columns t.0 q ≡ true) is b.1 in grind (arith, nat_tests, a, h, y)

-- what that search tells
pub told_by_search : (s : Span) (d : ℕ) (p : Position) (ss : List Span) (o : Option Span) → last_before by_columns (column_place p) ss ≡ o → IsAscending by_columns ss → (s.0.row + s.1.rows < 2 ^ 64 → p ≡ at (s.0.row + s.1.rows) d) → (2 ^ 64 ≤ s.0.row + s.1.rows → p ≡ at 0 (d + 1)) → IfSome o (λ t. t.0.row < 2 ^ 64) → apart_at ss s d ≡ ends_above s d o
told_by_search s d p ss o found up small great some =
    ap (λ q. ends_above s d q) (last_of_column s d p ss up small great (subst (λ (q : Option Span). IfSome q (λ t. t.0.row < 2 ^ 64)) (sym found) some) ∙ found)

-- ---- one column after the other

-- what is apart from s is so wherever it begins
right_from_pair : (s t : Span) → are_apart s t ≡ true → apart_right s t ≡ true
right_from_pair s t h = elim (cases_Bool (nat_le t.0.col s.0.col)) [ inl y ↦ rw y refl | inr n ↦ rw n h ]

-- no rectangle begins in a column from one on and before another
abbrev pub SkipsTo : ℕ → ℕ → Span → Type 0
SkipsTo from d t = from ≤ t.0.col → d ≤ t.0.col

-- those that begin left of a column are apart from s, or don't begin right of its first column
abbrev pub ApartBefore : Span → ℕ → Span → Type 0
ApartBefore s d t = t.0.col < d → apart_right s t ≡ true

pub skips_all : (from d : ℕ) (ss : List Span) → d ≤ from → Each (SkipsTo from d) ss
skips_all from d [] h = tt
skips_all from d (t ∷ ss) h = ((λ l. omega (arith, l, h)), skips_all from d ss h)

pub skips_none : (from d : ℕ) (ss : List Span) → next_from by_columns (column_place (at 0 from)) ss ≡ None → Each (SkipsTo from d) ss
skips_none from d [] h = tt
skips_none from d (t ∷ ss) h =
    elim (cases_Bool (before by_columns t.0 (column_place (at 0 from)))) [
      | inl y ↦ ((λ l. grind (arith, nat_tests, y, l)), skips_none from d ss (rw y at h))
      | inr n ↦ let some = (rw n at h) in absurd (cc)
    ]

-- those before the first entry from a column on begin left of it, and those behind it don't begin left of the entry
skips_behind : (from d : ℕ) (s : Span) (ss : List Span) → d ≤ s.0.col → Each (λ t. before by_columns s.0 t.0 ≡ true) ss → Each (SkipsTo from d) ss
skips_behind from d s [] h up = tt
skips_behind from d s (t ∷ ss) h up = ((λ l. grind (arith, nat_tests, h, up.0)), skips_behind from d s ss h up.1)

pub skips_to : (from d : ℕ) (s : Span) (ss : List Span) → IsAscending by_columns ss → next_from by_columns (column_place (at 0 from)) ss ≡ Some s → d ≤ s.0.col → Each (SkipsTo from d) ss
skips_to from d s [] up h l = tt
skips_to from d s (t ∷ ss) up h l =
    elim (cases_Bool (before by_columns t.0 (column_place (at 0 from)))) [
      | inl y ↦ ((λ m. grind (arith, nat_tests, y, m)), skips_to from d s ss up.1 (rw y at h) l)
      | inr n ↦
          let some = (rw n at h) in
          let is : t ≡ s = (cc) in
          let le : d ≤ t.0.col = subst (λ (u : Span). d ≤ u.0.col) (sym is) l in
          ((λ m. le), skips_behind from d t ss le up.0)
    ]

pub next_is_right : (from : ℕ) (s : Span) (ss : List Span) → next_from by_columns (column_place (at 0 from)) ss ≡ Some s → from ≤ s.0.col
next_is_right from s [] h = absurd (cc)
next_is_right from s (t ∷ ss) h =
    elim (cases_Bool (before by_columns t.0 (column_place (at 0 from)))) [
      | inl y ↦ next_is_right from s ss (rw y at h)
      | inr n ↦
          let some = (rw n at h) in
          let is : t ≡ s = (cc) in
          subst (λ (u : Span). from ≤ u.0.col) is (grind (arith, nat_tests, n))
    ]

pub before_first : (s : Span) (ss : List Span) → Each (ApartBefore s (s.0.col + 1)) ss
before_first s [] = tt
before_first s (t ∷ ss) = ((λ l. grind (arith, nat_tests, l)), before_first s ss)

more_columns : (s : Span) (from d : ℕ) (ss : List Span) → Each (SkipsTo from d) ss → Each (ApartIn s d) ss → Each (ApartBefore s from) ss → Each (ApartBefore s (d + 1)) ss
more_columns s from d [] skips here all = tt
more_columns s from d (t ∷ ss) skips here all = (next, more_columns s from d ss skips.1 here.1 all.1)
  where
    next : ApartBefore s (d + 1) t
    next l =
        elim (cases_Bool (nat_lt t.0.col from)) [
          | inl y ↦ all.0 (grind (arith, nat_tests, y))
          | inr n ↦
              let right : d ≤ t.0.col = skips.0 (grind (arith, nat_tests, n)) in
              let is : (t.0.col == d) ≡ true = grind (arith, nat_tests, right, l) in
              right_from_pair s t (here.0 is)
        ]

-- one column more
pub column_more : (s : Span) (from d : ℕ) (ss : List Span) → IsAscending by_columns ss → columns_apart None ss ≡ true → Each (SkipsTo from d) ss → apart_at ss s d ≡ true → Each (ApartBefore s from) ss → Each (ApartBefore s (d + 1)) ss
column_more s from d ss up h skips test all = more_columns s from d ss skips (apart_in_column s d ss up h test) all

-- no further column
pub column_apart : (s : Span) (from end : ℕ) (ss : List Span) → end ≡ s.0.col + s.1.columns → Each (SkipsTo from end) ss → Each (ApartBefore s from) ss → list_all (apart_right s) ss ≡ true
column_apart s from end ss is skips all = passes_each (apart_right s) ss (each ss skips all)
  where
    each : (ts : List Span) → Each (SkipsTo from end) ts → Each (ApartBefore s from) ts → Each (λ t. apart_right s t ≡ true) ts
    each [] a b = tt
    each (t ∷ ts) a b = (
      (elim (cases_Bool (nat_lt t.0.col from)) [
        | inl y ↦ b.0 (grind (arith, nat_tests, y))
        | inr n ↦ let right : end ≤ t.0.col = a.0 (grind (arith, nat_tests, n)) in right_from_pair s t (grind (arith, nat_tests, right, is))
      ]),
      each ts a.1 b.1,
    )

-- a column in which one isn't apart
pub column_not : (s : Span) (d : ℕ) (ss : List Span) → HasEnd s → Each HasEnd ss → s.0.col < d → d < s.0.col + s.1.columns → apart_at ss s d ≡ false → list_all (apart_right s) ss ≡ false
column_not s d ss end ends left right test =
    elim (cases_Bool (list_all (apart_right s) ss)) [
      | inr n ↦ n
      | inl y ↦ absurd (false≢true (sym test ∙ search_from_apart s d ss end ends left right (here ss (each_passes (apart_right s) ss y))))
    ]
  where
    here : (ts : List Span) → Each (λ t. apart_right s t ≡ true) ts → Each (ApartIn s d) ts
    here [] all = tt
    here (t ∷ ts) all = ((λ is. let first : nat_le t.0.col s.0.col ≡ false = grind (arith, nat_tests, is, left) in rw first at all.0), here ts all.1)

-- ---- all of them

-- pairs that are apart stand so within their columns, and right of one another
columns_from_pairs : (a : Option Span) (ss : List Span) → IfSome a (λ s. (0 < s.1.columns) × Each (λ t. (before by_columns s.0 t.0 ≡ true) × (are_apart s t ≡ true)) ss) → IsAscending by_columns ss → Each HasEnd ss → all_apart ss ≡ true → columns_apart a ss ≡ true
columns_from_pairs a [] first up ends h = refl
columns_from_pairs a (t ∷ ts) first up ends h =
    let parts = and_parts (list_all (are_apart t) ts) (all_apart ts) h in
    and_from (is_past a t) (columns_apart (Some t) ts) (here a first) (columns_from_pairs (Some t) ts (ends.0.1, each-both (λ u. before by_columns t.0 u.0 ≡ true) (λ u. are_apart t u ≡ true) ts up.0 (each_passes (are_apart t) ts parts.0)) up.1 ends.1 parts.1)
  where
    here : (o : Option Span) → IfSome o (λ s. (0 < s.1.columns) × Each (λ u. (before by_columns s.0 u.0 ≡ true) × (are_apart s u ≡ true)) (t ∷ ts)) → is_past o t ≡ true
    here None f = refl
    here (Some s) f = grind (arith, nat_tests, f.0, f.1.0.0, f.1.0.1, ends.0.0, ends.0.1)

-- those before a rectangle don't begin right of it
right_of_earlier : (s t : Span) → before by_columns s.0 t.0 ≡ true → apart_right t s ≡ true
right_of_earlier s t h = grind (arith, nat_tests, h)

right_of_self : (s : Span) → apart_right s s ≡ true
right_of_self s = grind (arith, nat_tests)

rows_from_pairs : (ss : List Span) → IsAscending by_columns ss → all_apart ss ≡ true → Each (λ s. Each (λ t. apart_right s t ≡ true) ss) ss
rows_from_pairs [] up h = tt
rows_from_pairs (s ∷ ss) up h =
    let parts = and_parts (list_all (are_apart s) ss) (all_apart ss) h in (
      (right_of_self s, each_of ss (right_from_pair s) (each_passes (are_apart s) ss parts.0)),
      each_of ss (λ t both. (right_of_earlier s t both.0, both.1)) (each-both (λ t. before by_columns s.0 t.0 ≡ true) (λ t. Each (λ u. apart_right t u ≡ true) ss) ss up.0 (rows_from_pairs ss up.1 parts.1)),
    )

-- and are apart where they do
pair_from_parts : (s t : Span) → before by_columns s.0 t.0 ≡ true → is_past (Some s) t ≡ true → apart_right s t ≡ true → are_apart s t ≡ true
pair_from_parts s t up past right =
    elim (cases_Bool (nat_le t.0.col s.0.col)) [
      | inl y ↦ grind (arith, nat_tests, up, past, y)
      | inr n ↦ rw n at right
    ]

pairs_from_rows : (ss : List Span) → IsAscending by_columns ss → columns_apart None ss ≡ true → Each (λ s. Each (λ t. apart_right s t ≡ true) ss) ss → all_apart ss ≡ true
pairs_from_rows [] up h all = refl
pairs_from_rows (s ∷ ss) up h all =
    and_from (list_all (are_apart s) ss) (all_apart ss)
    (passes_each (are_apart s) ss (each_of ss (λ t both. pair_from_parts s t both.0.0 both.0.1 both.1) (each-both (λ t. (before by_columns s.0 t.0 ≡ true) × (is_past (Some s) t ≡ true)) (λ t. apart_right s t ≡ true) ss (each-both (λ t. before by_columns s.0 t.0 ≡ true) (λ t. is_past (Some s) t ≡ true) ss up.0 (past_all s ss up h)) all.0.1)))
    (pairs_from_rows ss up.1 (columns_rest (Some s) ss h) (each_of ss (λ t two. two.1) all.1))

-- All pairs are apart where each rectangle ends above the next one of its column and is apart from all that begin right of its first column, and only there.
pub apart_by_columns : (ss : List Span) → IsAscending by_columns ss → Each HasEnd ss → all_apart ss ≡ (columns_apart None ss && rows_apart ss)
apart_by_columns ss up ends =
    both_ways (all_apart ss) (columns_apart None ss && rows_apart ss)
    (λ h. and_from (columns_apart None ss) (rows_apart ss) (columns_from_pairs None ss tt up ends h) (passes_each (λ s. list_all (apart_right s) ss) ss (each_of ss (λ s all. passes_each (apart_right s) ss all) (rows_from_pairs ss up h))))
    (λ h. let parts = and_parts (columns_apart None ss) (rows_apart ss) h in pairs_from_rows ss up parts.0 (each_of ss (λ s all. each_passes (apart_right s) ss all) (each_passes (λ s. list_all (apart_right s) ss) ss parts.1)))
