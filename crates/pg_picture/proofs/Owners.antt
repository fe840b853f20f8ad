-- Owners of places where rectangles share none, and sums along a row from rectangle to rectangle.
use Rattle.std.proofs.Common.{◌≡◌, ℕ, ◌+◌, ◌<◌, ◌≤◌, Bool, true, false, List, [], ◌∷◌, find, refl, sym, ap, ◌∙◌, arith, Option, Some, None, unwrap_or, ◌⊎◌, inl, inr, subst, zero, suc, ◌-◌, cond, ◌&&◌, nat_lt, flat_map, sum_by, count_by, ap₂, zero-add}
use Rattle.std.specs.List.{list_all, range_with_len}
use Rattle.std.proofs.lemmas.Bool.{cases_Bool, and_parts, false≢true, cases_lt}
use Rattle.std.proofs.lemmas.Bool.Decides.{nat_tests}
use Rattle.pg_config.specs.declared.spans.SpanSize.{SpanSize}
use Rattle.pg_layout.specs.Keys.{by_columns, column_place}
use Rattle.pg_layout.specs.declared.position.Position.{Position}
use Rattle.pg_layout.specs.Places.{same, value_at}
use Rattle.pg_layout.specs.Position.{at, is_at}
use Rattle.pg_config.specs.Spans.{Span, corner, corner_or, size_of, rect_rows, rect_columns, in_span, owner, span_size, is_left, same_owner, begins_above}
use Rattle.pg_picture.proofs.OwnersOfPlaces.{Among}
use Rattle.pg_picture.specs.Fits.{are_apart, all_apart, span_fits_columns, span_fits, spans_fit, spans_fit_columns}
use Rattle.std.proofs.lemmas.List.Sums.{sum_by-append, sum_by-cons}
use Rattle.pg_config.specs.Config.{has_vertical, count_vertical}
use Rattle.pg_picture.specs.Table.{Table, rect_width, is_inside, is_covered, total_width}
use Rattle.pg_picture.proofs.Ranges.{sum_by-from_more}

-- ---- where rectangles share no place, each place has one owner, which owns each place of its rectangle

-- ---- rectangles of a list

-- each rectangle has a size, and shares no place with another
pub record Apart (spans : List Span) : Type 0 where
  pub sizes : (s : Span) → Among spans s → (0 < s.1.rows) × (0 < s.1.columns)
  pub alone : (s u : Span) (r c : ℕ) → Among spans s → Among spans u → in_span r c s ≡ true → in_span r c u ≡ true → s ≡ u

pub all_pass : (test : Span → Bool) (spans : List Span) (s : Span) → list_all test spans ≡ true → Among spans s → test s ≡ true
all_pass test [] s h m = absurd m
all_pass test (x ∷ xs) s h (inl e) = subst (λ y. test y ≡ true) e (and_parts (test x) (list_all test xs) h).0
all_pass test (x ∷ xs) s h (inr m) = all_pass test xs s (and_parts (test x) (list_all test xs) h).1 m

share_none : (s u : Span) (r c : ℕ) → are_apart s u ≡ true → in_span r c s ≡ true → in_span r c u ≡ true → ⊥
share_none s u r c h hs hu = grind (arith, nat_tests, h, hs, hu)

alone_of : (spans : List Span) (s u : Span) (r c : ℕ) → all_apart spans ≡ true → Among spans s → Among spans u → in_span r c s ≡ true → in_span r c u ≡ true → s ≡ u
alone_of [] s u r c h m n hs hu = absurd m
alone_of (x ∷ xs) s u r c h (inl e) (inl f) hs hu = sym e ∙ f
alone_of (x ∷ xs) s u r c h (inl e) (inr n) hs hu =
    let apart : are_apart x u ≡ true = all_pass (are_apart x) xs u (and_parts (list_all (are_apart x) xs) (all_apart xs) h).0 n in
    absurd (share_none x u r c apart (subst (λ y. in_span r c y ≡ true) (sym e) hs) hu)
alone_of (x ∷ xs) s u r c h (inr m) (inl f) hs hu =
    let apart : are_apart x s ≡ true = all_pass (are_apart x) xs s (and_parts (list_all (are_apart x) xs) (all_apart xs) h).0 m in
    absurd (share_none x s r c apart (subst (λ y. in_span r c y ≡ true) (sym f) hu) hs)
alone_of (x ∷ xs) s u r c h (inr m) (inr n) hs hu = alone_of xs s u r c (and_parts (list_all (are_apart x) xs) (all_apart xs) h).1 m n hs hu

-- spans that fit a number of columns are apart
pub apart_from : (spans : List Span) (columns : ℕ) → spans_fit_columns spans columns ≡ true → Apart spans
unfolding spans_fit_columns
apart_from spans columns h =
    let parts = and_parts (list_all (span_fits_columns columns) spans) (all_apart spans) h in
    record {
      sizes = λ s m. let e : span_fits_columns columns s ≡ true = all_pass (span_fits_columns columns) spans s parts.0 m in (grind (arith, nat_tests, e), grind (arith, nat_tests, e));
      alone = λ s u r c. alone_of spans s u r c parts.1;
    }

-- ---- what a search finds

Found : (Span → Bool) → List Span → Type 0
Found test spans = (s : Span) × (find test spans ≡ Some s) × (test s ≡ true) × Among spans s

NotFound : (Span → Bool) → List Span → Type 0
NotFound test spans = (find test spans ≡ None) × ((s : Span) → Among spans s → test s ≡ false)

find_cases : (test : Span → Bool) (spans : List Span) → Found test spans ⊎ NotFound test spans
unfolding Found NotFound
find_cases test [] = inr (refl, λ s m. absurd m)
find_cases test (x ∷ xs) =
    elim (cases_Bool (test x)) [
      | inl h ↦ inl (x, rw h refl, h, inl refl)
      | inr h ↦ elim (find_cases test xs) [
        | inl f ↦ inl (f.0, rw h f.1, f.2, inr f.3)
        | inr f ↦ inr (rw h f.0, λ s m. elim m [ inl e ↦ subst (λ y. test y ≡ false) e h | inr n ↦ f.1 s n ])
      ]
    ]

holds_own : (s : Span) → 0 < s.1.rows → 0 < s.1.columns → in_span s.0.row s.0.col s ≡ true
holds_own s a b = grind (arith, nat_tests, a, b)

-- the size of a rectangle is found at its corner
size_at : (spans : List Span) (s : Span) → Apart spans → Among spans s → value_at by_columns (column_place (corner s)) spans ≡ Some s.1
size_at spans s apart m = go spans (λ u n. n) m
  where
    go : (xs : List Span) → ((u : Span) → Among xs u → Among spans u) → Among xs s → value_at by_columns (column_place (corner s)) xs ≡ Some s.1
    go [] inside n = absurd n
    go (x ∷ xs) inside n =
        elim (cases_Bool (same by_columns x.0 (column_place (corner s)))) [
          | inl y ↦
              let row : x.0.row ≡ s.0.row = grind (arith, nat_tests, y) in
              let col : x.0.col ≡ s.0.col = grind (arith, nat_tests, y) in
              let mine = apart.sizes s m in
              let other = apart.sizes x (inside x (inl refl)) in
              let here : in_span s.0.row s.0.col x ≡ true = grind (arith, nat_tests, row, col, other.0, other.1) in
              rw y (ap (λ (u : Span). Some u.1) (apart.alone x s s.0.row s.0.col (inside x (inl refl)) m here (holds_own s mine.0 mine.1)))
          | inr f ↦ elim n [
            | inl e ↦ absurd (let row = ap (λ (u : Span). u.0.row) e in let col = ap (λ (u : Span). u.0.col) e in grind (arith, nat_tests, f, row, col))
            | inr k ↦ rw f (go xs (λ u l. inside u (inr l)) k)
          ]
        ]

-- a place of no rectangle has none of its own
size_none : (spans : List Span) (r c : ℕ) → ((s : Span) → Among spans s → (0 < s.1.rows) × (0 < s.1.columns)) → ((s : Span) → Among spans s → in_span r c s ≡ false) → value_at by_columns (column_place (at r c)) spans ≡ None
size_none [] r c sizes none = refl
size_none (x ∷ xs) r c sizes none =
    let size = sizes x (inl refl) in
    let out : in_span r c x ≡ false = none x (inl refl) in
    let other : same by_columns x.0 (column_place (at r c)) ≡ false = grind (arith, nat_tests, size.0, size.1, out) in
    rw other (size_none xs r c (λ s m. sizes s (inr m)) (λ s m. none s (inr m)))

-- ---- owners

-- a rectangle of the list holds the place
pub record IsHeld (spans : List Span) (r c : ℕ) : Type 0 where
  pub span : Span
  pub among : Among spans span
  pub holds : in_span r c span ≡ true
  pub own : owner spans r c ≡ corner span
  pub rows : rect_rows spans (owner spans r c) ≡ span.1.rows
  pub columns : rect_columns spans (owner spans r c) ≡ span.1.columns

-- no rectangle holds it: it is a cell of its own
pub record IsSingle (spans : List Span) (r c : ℕ) : Type 0 where
  pub none : (s : Span) → Among spans s → in_span r c s ≡ false
  pub own : owner spans r c ≡ at r c
  pub rows : rect_rows spans (owner spans r c) ≡ 1
  pub columns : rect_columns spans (owner spans r c) ≡ 1

-- the size that is found at a place is that of its rectangle
rows_of : (spans : List Span) (p q : Position) (o : Option SpanSize) → p ≡ q → value_at by_columns (column_place q) spans ≡ o → rect_rows spans p ≡ (unwrap_or o (span_size 1 1)).rows
unfolding rect_rows size_of
rows_of spans p q o e h = ap (λ (x : Position). rect_rows spans x) e ∙ ap (λ (v : Option SpanSize). (unwrap_or v (span_size 1 1)).rows) h

columns_of : (spans : List Span) (p q : Position) (o : Option SpanSize) → p ≡ q → value_at by_columns (column_place q) spans ≡ o → rect_columns spans p ≡ (unwrap_or o (span_size 1 1)).columns
unfolding rect_columns size_of
columns_of spans p q o e h = ap (λ (x : Position). rect_columns spans x) e ∙ ap (λ (v : Option SpanSize). (unwrap_or v (span_size 1 1)).columns) h

module _ (spans : List Span) (apart : Apart spans) where
  pub owner_cases : (r c : ℕ) → IsHeld spans r c ⊎ IsSingle spans r c
  unfolding owner Found NotFound
  owner_cases r c =
      elim (find_cases (in_span r c) spans) [
        | inl f ↦
            let own : corner_or (at r c) (find (in_span r c) spans) ≡ corner f.0 = ap (λ (o : Option Span). corner_or (at r c) o) f.1 in
            let size = size_at spans f.0 apart f.3 in
            inl (record {
              span = f.0;
              among = f.3;
              holds = f.2;
              own = own;
              rows = rows_of spans (owner spans r c) (corner f.0) (Some f.0.1) own size;
              columns = columns_of spans (owner spans r c) (corner f.0) (Some f.0.1) own size;
            })
        | inr f ↦
            let own : corner_or (at r c) (find (in_span r c) spans) ≡ at r c = ap (λ (o : Option Span). corner_or (at r c) o) f.0 in
            let size = size_none spans r c apart.sizes f.1 in
            inr (record {
              none = f.1;
              own = own;
              rows = rows_of spans (owner spans r c) (at r c) None own size;
              columns = columns_of spans (owner spans r c) (at r c) None own size;
            })
      ]

-- the place (s, d) lies in the rectangle of p
pub record LiesIn (spans : List Span) (p : Position) (s d : ℕ) : Type 0 where
  pub below : p.row ≤ s
  pub above : s < p.row + rect_rows spans p
  pub right : p.col ≤ d
  pub left : d < p.col + rect_columns spans p

-- each place lies in the rectangle of its owner, which owns all of it
pub record HasOwners (spans : List Span) : Type 0 where
  pub near : (r c : ℕ) → LiesIn spans (owner spans r c) r c
  pub whole : (r c s d : ℕ) → LiesIn spans (owner spans r c) s d → owner spans s d ≡ owner spans r c

near_held : (spans : List Span) (r c : ℕ) → IsHeld spans r c → LiesIn spans (owner spans r c) r c
near_held spans r c h =
    let holds = h.holds in
    let row : (owner spans r c).row ≡ h.span.0.row = ap (λ (p : Position). p.row) h.own in
    let col : (owner spans r c).col ≡ h.span.0.col = ap (λ (p : Position). p.col) h.own in
    record {
      below = grind (arith, nat_tests, holds, row);
      above = grind (arith, nat_tests, holds, row, h.rows);
      right = grind (arith, nat_tests, holds, col);
      left = grind (arith, nat_tests, holds, col, h.columns);
    }

near_single : (spans : List Span) (r c : ℕ) → IsSingle spans r c → LiesIn spans (owner spans r c) r c
near_single spans r c h =
    let row : (owner spans r c).row ≡ r = ap (λ (p : Position). p.row) h.own in
    let col : (owner spans r c).col ≡ c = ap (λ (p : Position). p.col) h.own in
    record {
      below = omega (arith, row);
      above = omega (arith, row, h.rows);
      right = omega (arith, col);
      left = omega (arith, col, h.columns);
    }

module _ (spans : List Span) (apart : Apart spans) where
  whole_held : (r c s d : ℕ) → IsHeld spans r c → LiesIn spans (owner spans r c) s d → owner spans s d ≡ owner spans r c
  whole_held r c s d h l =
      let row : (owner spans r c).row ≡ h.span.0.row = ap (λ (p : Position). p.row) h.own in
      let col : (owner spans r c).col ≡ h.span.0.col = ap (λ (p : Position). p.col) h.own in
      let here : in_span s d h.span ≡ true = grind (arith, nat_tests, row, col, h.rows, h.columns, l.below, l.above, l.right, l.left) in
      elim (owner_cases spans apart s d) [
        | inl k ↦ k.own ∙ ap corner (apart.alone k.span h.span s d k.among h.among k.holds here) ∙ sym h.own
        | inr k ↦ absurd (false≢true (sym (k.none h.span h.among) ∙ here))
      ]

  whole_single : (r c s d : ℕ) → IsSingle spans r c → LiesIn spans (owner spans r c) s d → owner spans s d ≡ owner spans r c
  whole_single r c s d h l =
      let row : (owner spans r c).row ≡ r = ap (λ (p : Position). p.row) h.own in
      let col : (owner spans r c).col ≡ c = ap (λ (p : Position). p.col) h.own in
      let down : s ≡ r = omega (arith, row, h.rows, l.below, l.above) in
      let over : d ≡ c = omega (arith, col, h.columns, l.right, l.left) in
      ap (λ n. owner spans n d) down ∙ ap (λ n. owner spans r n) over

  pub owners_of : HasOwners spans
  owners_of = record {
    near = λ r c. elim (owner_cases spans apart r c) [ inl h ↦ near_held spans r c h | inr h ↦ near_single spans r c h ];
    whole = λ r c s d l. elim (owner_cases spans apart r c) [ inl h ↦ whole_held r c s d h l | inr h ↦ whole_single r c s d h l ];
  }

-- an owner owns its own place
pub owner-own : (spans : List Span) → HasOwners spans → (r c : ℕ) → owner spans (owner spans r c).row (owner spans r c).col ≡ owner spans r c
owner-own spans owners r c =
    let n = owners.near r c in
    owners.whole r c (owner spans r c).row (owner spans r c).col (record { below = omega arith; above = omega (arith, n.below, n.above); right = omega arith; left = omega (arith, n.right, n.left) })

-- where all rectangles end above row `rows`, so do those of the owners of the rows above
pub owner-ends : (spans : List Span) (rows columns : ℕ) → Apart spans → spans_fit spans rows columns ≡ true → (r c : ℕ) → r < rows → (owner spans r c).row + rect_rows spans (owner spans r c) ≤ rows
unfolding spans_fit
owner-ends spans rows columns apart fit r c h =
    let parts = and_parts (list_all (span_fits rows columns) spans) (all_apart spans) fit in
    elim (owner_cases spans apart r c) [
      | inl k ↦
          let row : (owner spans r c).row ≡ k.span.0.row = ap (λ (p : Position). p.row) k.own in
          let e : span_fits rows columns k.span ≡ true = all_pass (span_fits rows columns) spans k.span parts.0 k.among in
          grind (arith, nat_tests, row, k.rows, e)
      | inr k ↦
          let row : (owner spans r c).row ≡ r = ap (λ (p : Position). p.row) k.own in
          omega (arith, row, k.rows, h)
    ]

-- where all rectangles end inside the columns, so do those of the owners of their places
pub owner-columns : (spans : List Span) (columns : ℕ) → Apart spans → spans_fit_columns spans columns ≡ true → (r c : ℕ) → c < columns → (owner spans r c).col + rect_columns spans (owner spans r c) ≤ columns
unfolding spans_fit_columns
owner-columns spans columns apart fit r c h =
    let parts = and_parts (list_all (span_fits_columns columns) spans) (all_apart spans) fit in
    elim (owner_cases spans apart r c) [
      | inl k ↦
          let col : (owner spans r c).col ≡ k.span.0.col = ap (λ (p : Position). p.col) k.own in
          let e : span_fits_columns columns k.span ≡ true = all_pass (span_fits_columns columns) spans k.span parts.0 k.among in
          grind (arith, nat_tests, col, k.columns, e)
      | inr k ↦
          let col : (owner spans r c).col ≡ c = ap (λ (p : Position). p.col) k.own in
          omega (arith, col, k.columns, h)
    ]

-- ---- sums along a row, rectangle by rectangle: what stands before a column is as wide as the columns before it and those that the last rectangle
-- reaches over

-- ---- sums

-- the columns of parts are those of each part
pub sum_by-flat_map : {X Y : Type 0} (w : Y → ℕ) (f : X → List Y) (xs : List X) → sum_by w (flat_map f xs) ≡ sum_by (λ x. sum_by w (f x)) xs
sum_by-flat_map w f [] = refl
sum_by-flat_map w f (x ∷ xs) = sum_by-append w (f x) (flat_map f xs) ∙ ap (λ n. sum_by w (f x) + n) (sum_by-flat_map w f xs) ∙ sym (sum_by-cons (λ y. sum_by w (f y)) x xs)

sum_by-add : {X : Type 0} (f g : X → ℕ) (xs : List X) → sum_by (λ x. f x + g x) xs ≡ sum_by f xs + sum_by g xs
sum_by-add f g [] = refl
sum_by-add f g (x ∷ xs) = omega (arith, sum_by-cons (λ y. f y + g y) x xs, sum_by-cons f x xs, sum_by-cons g x xs, sum_by-add f g xs)

-- The parts before column k are as wide as the columns before it and those that the last part reaches over.
module _ (part column ahead : ℕ → ℕ) (n : ℕ) (first : ahead 0 ≡ 0) (step : (k : ℕ) → k < n → part k + sum_by column (range_with_len k (ahead k)) ≡ column k + sum_by column (range_with_len (k + 1) (ahead (k + 1)))) where
  reached : (k : ℕ) → k ≤ n → sum_by part (range_with_len 0 k) ≡ sum_by column (range_with_len 0 k) + sum_by column (range_with_len k (ahead k))
  reached zero h = rw first refl
  reached (suc k) h =
      let ih : sum_by part (range_with_len 0 k) ≡ sum_by column (range_with_len 0 k) + sum_by column (range_with_len k (ahead k)) = reached k (omega arith) in
      let parts = sum_by-from_more part 0 k in
      let columns = sum_by-from_more column 0 k in
      let now = step k (omega arith) in
      let z : 0 + k ≡ k = omega arith in
      let next : k + 1 ≡ suc k = omega arith in
      subst (λ m. sum_by part (range_with_len 0 m) ≡ sum_by column (range_with_len 0 m) + sum_by column (range_with_len m (ahead m))) next
      (omega (arith, ih, parts, columns, now, ap part z, ap column z))

  -- and all parts, where nothing reaches over the end
  pub all_reached : ahead n ≡ 0 → sum_by part (range_with_len 0 n) ≡ sum_by column (range_with_len 0 n)
  all_reached last = let whole = reached n (omega arith) in rw last at whole ∙ omega arith

-- a place, by its row and its column
pub is_at-same : (p q : Position) → is_at p q.row q.col ≡ true → p ≡ q
is_at-same p q h =
    let row : p.row ≡ q.row = grind (arith, nat_tests, h) in
    let col : p.col ≡ q.col = grind (arith, nat_tests, h) in
    ap₂ (λ r c. at r c) row col

-- ---- rectangles along a row

module _ (t : Table) where
  -- one for a column line that is there
  abbrev pub there : ℕ → ℕ
  there c = cond (has_vertical t.config c t.columns) 1 0

  -- a column and the column line at its left
  abbrev pub column_at : ℕ → ℕ
  column_at c = there c + t.width c

  -- the columns of a rectangle, with the column line at its left
  pub rect_width-columns : (p : Position) → 0 < rect_columns t.config.spans p → there p.col + rect_width t p ≡ sum_by column_at (range_with_len p.col (rect_columns t.config.spans p))
  unfolding rect_width
  rect_width-columns p some =
      let k : ℕ = rect_columns t.config.spans p in
      let all : suc (rect_columns t.config.spans p - 1) ≡ rect_columns t.config.spans p = omega arith in
      let one : there p.col + count_by (λ c. has_vertical t.config c t.columns) (range_with_len (p.col + 1) (rect_columns t.config.spans p - 1)) ≡ sum_by there (range_with_len p.col (rect_columns t.config.spans p)) =
      sym (sum_by-cons there p.col (range_with_len (p.col + 1) (rect_columns t.config.spans p - 1))) ∙ ap (λ m. sum_by there (range_with_len p.col m)) all in
      omega (arith, one, sum_by-add there t.width (range_with_len p.col (rect_columns t.config.spans p)))

  pub total_width-columns : total_width t ≡ sum_by column_at (range_with_len 0 t.columns) + there t.columns
  unfolding total_width count_vertical
  total_width-columns = omega (arith, sum_by-from_more there 0 t.columns, ap there (zero-add t.columns), sum_by-add there t.width (range_with_len 0 t.columns))

  -- where the rectangle of a place ends
  abbrev pub end_of : ℕ → ℕ → ℕ
  end_of r c = (owner t.config.spans r c).col + rect_columns t.config.spans (owner t.config.spans r c)

  module _ (owners : HasOwners t.config.spans) where
    -- a column inside a rectangle: not the first one, and of the rectangle of the column before
    pub inside-facts : (r k : ℕ) → is_inside t r k ≡ true → (0 < k) × (owner t.config.spans r (k - 1) ≡ owner t.config.spans r k) × (is_left t.config.spans r k ≡ false)
    unfolding is_inside same_owner is_left
    inside-facts r k h =
        let parts = and_parts (nat_lt 0 k && nat_lt k t.columns) (same_owner t.config.spans r (k - 1) k) h in
        let one : owner t.config.spans r (k - 1) ≡ owner t.config.spans r k = is_at-same (owner t.config.spans r (k - 1)) (owner t.config.spans r k) parts.1 in
        let some : 0 < k = grind (arith, nat_tests, parts.0) in
        let near = owners.near r (k - 1) in
        let col : (owner t.config.spans r (k - 1)).col ≡ (owner t.config.spans r k).col = ap (λ (p : Position). p.col) one in
        (some, one, grind (arith, nat_tests, near.right, col, some))

    differ : (r k : ℕ) → k < t.columns → is_inside t r k ≡ false → 0 < k → owner t.config.spans r (k - 1) ≡ owner t.config.spans r k → ⊥
    unfolding is_inside same_owner
    differ r k h out some one =
        let same : is_at (owner t.config.spans r (k - 1)) (owner t.config.spans r k).row (owner t.config.spans r k).col ≡ true = rw one (grind (arith, nat_tests)) in
        let both : (nat_lt 0 k && nat_lt k t.columns) ≡ true = grind (arith, nat_tests, some, h) in
        false≢true (sym out ∙ rw (both, same) refl)

    -- a column that isn't inside begins its rectangle
    pub begins : (r k : ℕ) → k < t.columns → is_inside t r k ≡ false → (owner t.config.spans r k).col ≡ k
    begins r k h out =
        let near = owners.near r k in
        elim (cases_lt (owner t.config.spans r k).col k) [
          | inl less ↦ absurd (differ r k h out (omega (arith, less)) (owners.whole r k r (k - 1) (record { below = near.below; above = near.above; right = omega (arith, less); left = omega (arith, near.left) })))
          | inr more ↦ omega (arith, near.right, more)
        ]

    -- and the rectangle of the column before it ends there
    ends : (r k : ℕ) → k < t.columns → is_inside t r k ≡ false → 0 < k → end_of r (k - 1) ≡ k
    ends r k h out some =
        let near = owners.near r (k - 1) in
        elim (cases_lt k (end_of r (k - 1))) [
          | inl less ↦ absurd (differ r k h out some (sym (owners.whole r (k - 1) r k (record { below = near.below; above = near.above; right = omega (arith, near.right); left = less }))))
          | inr more ↦ omega (arith, near.left, more, some)
        ]

    -- ---- the line of a row

    -- the columns from k on that the rectangle before them has
    abbrev pub ahead : ℕ → ℕ → ℕ
    ahead r k = cond (nat_lt 0 k) (end_of r (k - 1) - k) 0

    ahead-next : (r k : ℕ) → ahead r (k + 1) ≡ end_of r k - (k + 1)
    ahead-next r k =
        let some : nat_lt 0 (k + 1) ≡ true = grind (arith, nat_tests) in
        let this : k + 1 - 1 ≡ k = omega arith in
        rw some (ap (λ c. end_of r c - (k + 1)) this)

    pub ahead-begins : (r k : ℕ) → k < t.columns → is_inside t r k ≡ false → ahead r k ≡ 0
    ahead-begins r k h out =
        elim (cases_Bool (nat_lt 0 k)) [
          | inl y ↦ let some : 0 < k = grind (arith, nat_tests, y) in let last = ends r k h out some in rw y (omega (arith, last))
          | inr n ↦ rw n refl
        ]

    pub ahead-inside : (r k : ℕ) → is_inside t r k ≡ true → ahead r k ≡ suc (ahead r (k + 1))
    ahead-inside r k in_one =
        let facts = inside-facts r k in_one in
        let some : nat_lt 0 k ≡ true = grind (arith, nat_tests, facts.0) in
        let near = owners.near r k in
        let one : end_of r (k - 1) ≡ end_of r k = ap (λ (p : Position). p.col + rect_columns t.config.spans p) facts.1 in
        let next = ahead-next r k in
        let this : ahead r k ≡ end_of r (k - 1) - k = rw some refl in
        omega (arith, one, next, this, near.left)

    -- one column more of a rectangle
    stretch-cons : (k n : ℕ) → sum_by column_at (range_with_len k (suc n)) ≡ column_at k + sum_by column_at (range_with_len (k + 1) n)
    stretch-cons k n = sum_by-cons column_at k (range_with_len (k + 1) n)

    -- a column with a part of its own: its column line, and its rectangle
    pub step-begins : (r k part : ℕ) → k < t.columns → is_inside t r k ≡ false → part ≡ there k + rect_width t (owner t.config.spans r k)
        → part + sum_by column_at (range_with_len k (ahead r k)) ≡ column_at k + sum_by column_at (range_with_len (k + 1) (ahead r (k + 1)))
    step-begins r k part h out is =
        let near = owners.near r k in
        let col = begins r k h out in
        let p : Position = owner t.config.spans r k in
        let size : ℕ = rect_columns t.config.spans (owner t.config.spans r k) in
        let wide : there k + rect_width t p ≡ sum_by column_at (range_with_len k size) =
        subst (λ c. there c + rect_width t (owner t.config.spans r k) ≡ sum_by column_at (range_with_len c (rect_columns t.config.spans (owner t.config.spans r k)))) col (rect_width-columns p (omega (arith, near.left, near.right))) in
        let rest : size ≡ suc (ahead r (k + 1)) = omega (arith, ahead-next r k, col, near.left) in
        let all : sum_by column_at (range_with_len k size) ≡ column_at k + sum_by column_at (range_with_len (k + 1) (ahead r (k + 1))) = ap (λ n. sum_by column_at (range_with_len k n)) rest ∙ stretch-cons k (ahead r (k + 1)) in
        let none : sum_by column_at (range_with_len k (ahead r k)) ≡ 0 = ap (λ n. sum_by column_at (range_with_len k n)) (ahead-begins r k h out) in
        omega (arith, is, wide, all, none)

    -- and one without
    pub step-inside : (r k part : ℕ) → is_inside t r k ≡ true → part ≡ 0 → part + sum_by column_at (range_with_len k (ahead r k)) ≡ column_at k + sum_by column_at (range_with_len (k + 1) (ahead r (k + 1)))
    step-inside r k part in_one is = omega (arith, is, ap (λ n. sum_by column_at (range_with_len k n)) (ahead-inside r k in_one) ∙ stretch-cons k (ahead r (k + 1)))

    -- the last rectangle ends with the table
    pub ahead-end : (r : ℕ) → (0 < t.columns → end_of r (t.columns - 1) ≤ t.columns) → ahead r t.columns ≡ 0
    ahead-end r inside =
        elim (cases_Bool (nat_lt 0 t.columns)) [
          | inl y ↦ let last = inside (grind (arith, nat_tests, y)) in rw y (omega (arith, last))
          | inr n ↦ rw n refl
        ]

    -- ---- the line of a separator

    -- the same for rectangles from above alone
    abbrev pub hanging : ℕ → ℕ → ℕ
    hanging r k = cond (nat_lt 0 k && is_covered t r (k - 1)) (ahead r k) 0

    pub covered-before : (r k : ℕ) → is_inside t r k ≡ true → is_covered t r (k - 1) ≡ is_covered t r k
    unfolding is_covered begins_above is_inside
    covered-before r k in_one =
        let facts = inside-facts r k in_one in
        let within = (and_parts (nat_lt 0 k && nat_lt k t.columns) (same_owner t.config.spans r (k - 1) k) in_one).0 in
        let this : nat_lt k t.columns ≡ true = grind (arith, nat_tests, within) in
        let before : nat_lt (k - 1) t.columns ≡ true = grind (arith, nat_tests, within) in
        rw (this, before) (ap (λ (p : Position). (nat_lt r t.rows && true) && nat_lt p.row r) facts.1)

    hanging-next : (r k : ℕ) → hanging r (k + 1) ≡ cond (is_covered t r k) (ahead r (k + 1)) 0
    hanging-next r k =
        let some : nat_lt 0 (k + 1) ≡ true = grind (arith, nat_tests) in
        let this : k + 1 - 1 ≡ k = omega arith in
        ap₂ (λ b c. cond (b && is_covered t r c) (ahead r (k + 1)) 0) some this

    pub hanging-inside : (r k : ℕ) → is_inside t r k ≡ true → hanging r k ≡ cond (is_covered t r k) (ahead r k) 0
    hanging-inside r k in_one =
        let some : nat_lt 0 k ≡ true = grind (arith, nat_tests, (inside-facts r k in_one).0) in
        ap₂ (λ a b. cond (a && b) (ahead r k) 0) some (covered-before r k in_one)

    none-or-none : (b : Bool) (n : ℕ) → n ≡ 0 → cond b n 0 ≡ 0
    none-or-none true n e = e
    none-or-none false n e = refl

    pub hanging-begins : (r k : ℕ) → k < t.columns → is_inside t r k ≡ false → hanging r k ≡ 0
    hanging-begins r k h out = none-or-none (nat_lt 0 k && is_covered t r (k - 1)) (ahead r k) (ahead-begins r k h out)

    pub hanging-step : (r k part : ℕ) → hanging r k ≡ ahead r k → is_covered t r k ≡ true → part + sum_by column_at (range_with_len k (ahead r k)) ≡ column_at k + sum_by column_at (range_with_len (k + 1) (ahead r (k + 1)))
        → part + sum_by column_at (range_with_len k (hanging r k)) ≡ column_at k + sum_by column_at (range_with_len (k + 1) (hanging r (k + 1)))
    hanging-step r k part this covered step =
        let next : hanging r (k + 1) ≡ ahead r (k + 1) = hanging-next r k ∙ ap (λ b. cond b (ahead r (k + 1)) 0) covered in
        ap (λ n. part + sum_by column_at (range_with_len k n)) this ∙ step ∙ ap (λ n. column_at k + sum_by column_at (range_with_len (k + 1) n)) (sym next)

    -- a column that no rectangle from above covers stands for itself
    pub step-open : (r k part : ℕ) → k < t.columns → is_covered t r k ≡ false → part ≡ column_at k
        → part + sum_by column_at (range_with_len k (hanging r k)) ≡ column_at k + sum_by column_at (range_with_len (k + 1) (hanging r (k + 1)))
    step-open r k part h open_one is =
        let next : hanging r (k + 1) ≡ 0 = hanging-next r k ∙ ap (λ b. cond b (ahead r (k + 1)) 0) open_one in
        let this : hanging r k ≡ 0 = elim (cases_Bool (is_inside t r k)) [
          | inl y ↦ hanging-inside r k y ∙ ap (λ b. cond b (ahead r k) 0) open_one
          | inr n ↦ hanging-begins r k h n
        ] in
        omega (arith, is, ap (λ n. sum_by column_at (range_with_len k n)) this, ap (λ n. sum_by column_at (range_with_len (k + 1) n)) next)

    pub hanging-end : (r : ℕ) → (r < t.rows → 0 < t.columns → end_of r (t.columns - 1) ≤ t.columns) → hanging r t.columns ≡ 0
    unfolding is_covered
    hanging-end r inside =
        elim (cases_lt r t.rows) [
          | inl h ↦ none-or-none (nat_lt 0 t.columns && is_covered t r (t.columns - 1)) (ahead r t.columns) (ahead-end r (inside h))
          | inr m ↦ let past : nat_lt r t.rows ≡ false = grind (arith, nat_tests, m) in let open_one : (nat_lt 0 t.columns && is_covered t r (t.columns - 1)) ≡ false = rw past (grind (arith, nat_tests)) in rw open_one refl
        ]
