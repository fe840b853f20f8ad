-- Which rectangles cover a place, outside of which extent there are none, and sums and counts over the columns.
use Rattle.std.proofs.Common.{◌≡◌, ℕ, zero, suc, ◌+◌, ◌≤◌, Bool, true, false, cond, ◌++◌, [], ◌∷◌, sum_by, count_by, refl, ap, ◌∙◌, zero-add, suc-add, add-zero, arith, ◌-◌, ◌<◌, not, ◌&&◌, ◌||◌, ◌==◌, nat_lt, List, sym, subst, Option, Some, None, unwrap_or, inl, inr, ◌^◌, IsSome}
use Rattle.std.specs.Int.{from_bool}
use Rattle.std.specs.List.{range_with_len, list_any}
use Rattle.std.proofs.lemmas.List.Sums.{sum_by-append}
use Rattle.std.specs.Cmp.{both_ways}
use Rattle.std.specs.Option.{IfSome}
use Rattle.std.proofs.lemmas.Bool.{cases_Bool}
use Rattle.std.proofs.lemmas.Bool.Decides.{nat_tests}
use Rattle.pg_layout.specs.declared.position.Position.{Position}
use Rattle.pg_layout.specs.Keys.{by_columns, column_place, Order, by_place}
use Rattle.pg_layout.specs.Places.{before, last_before, between, Each, IsAscending, same, comes, value_at, with_place, without_place, last_up_to}
use Rattle.pg_layout.specs.Position.{at}
use Rattle.pg_layout.proofs.KeyedPlaces.{columns-laws, last-is, none-before}
use Rattle.pg_config.specs.Spans.{Span, in_span, if_left, left_span, span_size}
use Rattle.pg_config.specs.Inside.{begins_within, is_covered_from, is_covered_from_left, with_rows, in_extent, last_row_of, HasSpan, HasCell}
use Rattle.pg_config.specs.declared.extent.Extent.{Extent}
use Rattle.pg_config.specs.declared.spans.SpanSize.{SpanSize}

-- ---- numbers that follow each other: what one more of them adds to a sum or a count

-- the first i + j numbers from a on
pub range-add : (a i j : ℕ) → range_with_len a (i + j) ≡ range_with_len a i ++ range_with_len (a + i) j
range-add a zero j = rw (zero-add, add-zero)
range-add a (suc i) j = rw suc-add (ap (λ l. a ∷ l) (range-add (a + 1) i j ∙ (let e : (a + 1) + i ≡ a + suc i = omega arith in rw e)))

-- the sum over one number more
pub sum_by-from_more : (f : ℕ → ℕ) (a k : ℕ) → sum_by f (range_with_len a (k + 1)) ≡ sum_by f (range_with_len a k) + f (a + k)
sum_by-from_more f a k =
    ap (λ l. sum_by f l) (range-add a k 1)
    ∙ sum_by-append f (range_with_len a k) ((a + k) ∷ [])
    ∙ ap (λ n. sum_by f (range_with_len a k) + n) (zero-add (f (a + k)))

one_if : (b : Bool) → cond b 1 0 ≡ from_bool b
one_if true = refl
one_if false = refl

one_at_most : (b : Bool) → from_bool b ≤ 1
one_at_most true = omega arith
one_at_most false = omega arith

-- the numbers that pass a test, counted one by one: what was found of k numbers, and whether the next one passes
pub found-more : (p : ℕ → Bool) (a k : ℕ) {found next : ℕ} → (found ≤ k) × (found ≡ count_by p (range_with_len a k)) → next ≡ from_bool (p (a + k)) → (found + next ≤ k + 1) × (found + next ≡ count_by p (range_with_len a (k + 1)))
found-more p a k counted is =
    let more = sum_by-from_more (λ n. cond (p n) 1 0) a k in
    (omega (arith, one_at_most (p (a + k)), counted.0, is), omega (arith, more, one_if (p (a + k)), counted.1, is))

-- ---- which rectangles cover a place, and outside of which extent there are none

-- ---- which rectangles cover a place, column by column

any_same : (p q : Span → Bool) (ss : List Span) → ((s : Span) → p s ≡ q s) → list_any p ss ≡ list_any q ss
any_same p q [] all = refl
any_same p q (s ∷ ss) all = rw (all s, any_same p q ss all) refl

any_none : (p : Span → Bool) (ss : List Span) → ((s : Span) → p s ≡ false) → list_any p ss ≡ false
any_none p [] all = refl
any_none p (s ∷ ss) all = rw (all s) (any_none p ss all)

and_shift : (a b d : Bool) → ((a && b) && d) ≡ (a && (b && d))
and_shift true b d = refl
and_shift false b d = refl

and_turned : (a b d : Bool) → ((a && b) && d) ≡ (b && (a && d))
and_turned true true d = refl
and_turned true false d = refl
and_turned false true d = refl
and_turned false false d = refl

-- ---- one column

-- the rectangles of a column that begin in some rows stand between two places
stands_between : (s : Span) (c first last : ℕ) → (not (before by_columns s.0 (column_place (at first c))) && not (before by_columns (column_place (at last c)) s.0)) ≡ ((s.0.col == c) && begins_within first last s)
stands_between s c first last =
    both_ways (not (before by_columns s.0 (column_place (at first c))) && not (before by_columns (column_place (at last c)) s.0)) ((s.0.col == c) && begins_within first last s) (λ h. grind (arith, nat_tests, h)) (λ h. grind (arith, nat_tests, h))

pub covered-between : (ss : List Span) (p : Position) (c first last : ℕ) → list_any (in_span p.row p.col) (between by_columns (column_place (at first c)) (column_place (at last c)) ss) ≡ is_covered_from ss p c first last
covered-between [] p c first last = refl
covered-between (s ∷ ss) p c first last =
    let is = stands_between s c first last in
    elim (cases_Bool ((s.0.col == c) && begins_within first last s)) [
      | inl y ↦ rw (is ∙ y, sym (and_shift (s.0.col == c) (begins_within first last s) (in_span p.row p.col s)), y) (ap (λ b. in_span p.row p.col s || b) (covered-between ss p c first last))
      | inr n ↦ rw (is ∙ n, sym (and_shift (s.0.col == c) (begins_within first last s) (in_span p.row p.col s)), n) (covered-between ss p c first last)
    ]

-- ---- rows above

-- the rows above one end with the one before it
above_is : (s : Span) (row : ℕ) → 0 < row → nat_lt s.0.row row ≡ begins_within 0 (row - 1) s
above_is s row h = both_ways (nat_lt s.0.row row) (begins_within 0 (row - 1) s) (λ y. grind (arith, nat_tests, h, y)) (λ y. grind (arith, nat_tests, h, y))

pub covered-by_row : (ss : List Span) (p : Position) → 0 < p.row → list_any (λ s. ((s.0.col == p.col) && nat_lt s.0.row p.row) && in_span p.row p.col s) ss ≡ is_covered_from ss p p.col 0 (p.row - 1)
covered-by_row ss p h =
    any_same (λ s. ((s.0.col == p.col) && nat_lt s.0.row p.row) && in_span p.row p.col s) (λ s. (s.0.col == p.col) && (begins_within 0 (p.row - 1) s && in_span p.row p.col s)) ss here
  where
    here : (s : Span) → (((s.0.col == p.col) && nat_lt s.0.row p.row) && in_span p.row p.col s) ≡ ((s.0.col == p.col) && (begins_within 0 (p.row - 1) s && in_span p.row p.col s))
    here s = ap (λ b. ((s.0.col == p.col) && b) && in_span p.row p.col s) (above_is s p.row h) ∙ and_shift (s.0.col == p.col) (begins_within 0 (p.row - 1) s) (in_span p.row p.col s)

pub covered-by_both : (ss : List Span) (p : Position) → 0 < p.row → list_any (λ s. (nat_lt s.0.row p.row && nat_lt s.0.col p.col) && in_span p.row p.col s) ss ≡ is_covered_from_left ss p 0 (p.row - 1)
covered-by_both ss p h =
    any_same (λ s. (nat_lt s.0.row p.row && nat_lt s.0.col p.col) && in_span p.row p.col s) (λ s. nat_lt s.0.col p.col && (begins_within 0 (p.row - 1) s && in_span p.row p.col s)) ss here
  where
    here : (s : Span) → ((nat_lt s.0.row p.row && nat_lt s.0.col p.col) && in_span p.row p.col s) ≡ (nat_lt s.0.col p.col && (begins_within 0 (p.row - 1) s && in_span p.row p.col s))
    here s = ap (λ b. (b && nat_lt s.0.col p.col) && in_span p.row p.col s) (above_is s p.row h) ∙ and_turned (begins_within 0 (p.row - 1) s) (nat_lt s.0.col p.col) (in_span p.row p.col s)

pub covered-by_column : (ss : List Span) (p : Position) → list_any (λ s. ((s.0.row == p.row) && nat_lt s.0.col p.col) && in_span p.row p.col s) ss ≡ is_covered_from_left ss p p.row p.row
covered-by_column ss p =
    any_same (λ s. ((s.0.row == p.row) && nat_lt s.0.col p.col) && in_span p.row p.col s) (λ s. nat_lt s.0.col p.col && (begins_within p.row p.row s && in_span p.row p.col s)) ss here
  where
    one_row : (s : Span) → (s.0.row == p.row) ≡ begins_within p.row p.row s
    one_row s = both_ways (s.0.row == p.row) (begins_within p.row p.row s) (λ y. grind (arith, nat_tests, y)) (λ y. grind (arith, nat_tests, y))

    here : (s : Span) → (((s.0.row == p.row) && nat_lt s.0.col p.col) && in_span p.row p.col s) ≡ (nat_lt s.0.col p.col && (begins_within p.row p.row s && in_span p.row p.col s))
    here s = ap (λ b. (b && nat_lt s.0.col p.col) && in_span p.row p.col s) (one_row s) ∙ and_turned (begins_within p.row p.row s) (nat_lt s.0.col p.col) (in_span p.row p.col s)

-- no row is above the first one
pub none-above_by_row : (ss : List Span) (p : Position) → p.row ≤ 0 → list_any (λ s. ((s.0.col == p.col) && nat_lt s.0.row p.row) && in_span p.row p.col s) ss ≡ false
none-above_by_row ss p h = any_none (λ s. ((s.0.col == p.col) && nat_lt s.0.row p.row) && in_span p.row p.col s) ss (λ s. grind (arith, nat_tests, h))

pub none-above_by_both : (ss : List Span) (p : Position) → p.row ≤ 0 → list_any (λ s. (nat_lt s.0.row p.row && nat_lt s.0.col p.col) && in_span p.row p.col s) ss ≡ false
none-above_by_both ss p h = any_none (λ s. (nat_lt s.0.row p.row && nat_lt s.0.col p.col) && in_span p.row p.col s) ss (λ s. grind (arith, nat_tests, h))

-- ---- one column after the other, from the right

-- those that begin left of a column
abbrev pub is_covered_left_of : List Span → Position → ℕ → ℕ → ℕ → Bool
is_covered_left_of ss p c first last = list_any (λ s. nat_lt s.0.col c && (begins_within first last s && in_span p.row p.col s)) ss

pub none-left : (ss : List Span) (p : Position) (c first last : ℕ) → IsAscending by_columns ss → last_before by_columns (column_place (at 0 c)) ss ≡ None → is_covered_left_of ss p c first last ≡ false
none-left ss p c first last up h = go ss (none-before columns-laws (column_place (at 0 c)) ss up h)
  where
    go : (ts : List Span) → Each (λ t. before by_columns t.0 (column_place (at 0 c)) ≡ false) ts → is_covered_left_of ts p c first last ≡ false
    go [] all = refl
    go (t ∷ ts) all = let n : nat_lt t.0.col c ≡ false = grind (arith, nat_tests, all.0) in rw n (go ts all.1)

-- the last one left of a column is in the next column from the right
abbrev IsNextLeft : ℕ → ℕ → Span → Type 0
IsNextLeft c d s = nat_lt s.0.col c ≡ ((s.0.col == d) || nat_lt s.0.col d)

next_left : (c : ℕ) (t : Span) (ss : List Span) → IsAscending by_columns ss → last_before by_columns (column_place (at 0 c)) ss ≡ Some t → (t.0.col < c) × Each (IsNextLeft c t.0.col) ss
next_left c t [] up h = absurd (cc)
next_left c t (s ∷ ss) up h =
    elim (cases_Bool (before by_columns s.0 (column_place (at 0 c)))) [
      | inr n ↦ let none = (rw n at h) in absurd (cc)
      | inl y ↦ step (λ u is. next_left c u ss up.1 is) (last_before by_columns (column_place (at 0 c)) ss) refl (last-is by_columns (λ u. before by_columns s.0 u.0 ≡ true) (column_place (at 0 c)) ss up.0) y (rw y at h)
    ]
  where
    behind : (ts : List Span) → Each (λ u. before by_columns s.0 u.0 ≡ true) ts → Each (λ u. before by_columns u.0 (column_place (at 0 c)) ≡ false) ts → s.0.col < c → Each (IsNextLeft c s.0.col) ts
    behind [] a b l = tt
    behind (u ∷ us) a b l = (both_ways (nat_lt u.0.col c) ((u.0.col == s.0.col) || nat_lt u.0.col s.0.col) (λ y. grind (arith, nat_tests, b.0, y)) (λ y. grind (arith, nat_tests, l, y)), behind us a.1 b.1 l)

    step : ((u : Span) → last_before by_columns (column_place (at 0 c)) ss ≡ Some u → (u.0.col < c) × Each (IsNextLeft c u.0.col) ss) → (o : Option Span) → last_before by_columns (column_place (at 0 c)) ss ≡ o → IfSome o (λ u. (before by_columns s.0 u.0 ≡ true) × (before by_columns u.0 (column_place (at 0 c)) ≡ true)) → before by_columns s.0 (column_place (at 0 c)) ≡ true → Some (unwrap_or o s) ≡ Some t → (t.0.col < c) × Each (IsNextLeft c t.0.col) (s ∷ ss)
    step more None is some y e =
        let same : s ≡ t = (cc) in
        let left : s.0.col < c = grind (arith, nat_tests, y) in
        subst (λ (u : Span). (u.0.col < c) × Each (IsNextLeft c u.0.col) (s ∷ ss)) same (left, (both_ways (nat_lt s.0.col c) ((s.0.col == s.0.col) || nat_lt s.0.col s.0.col) (λ z. grind (arith, nat_tests)) (λ z. grind (arith, nat_tests, left)), behind ss up.0 (none-before columns-laws (column_place (at 0 c)) ss up.1 is) left))
    step more (Some u) is some y e =
        let same : u ≡ t = (cc) in
        let rest = more u is in
        subst (λ (v : Span). (v.0.col < c) × Each (IsNextLeft c v.0.col) (s ∷ ss)) same (rest.0, (both_ways (nat_lt s.0.col c) ((s.0.col == u.0.col) || nat_lt s.0.col u.0.col) (λ z. grind (arith, nat_tests, some.0, some.1)) (λ z. grind (arith, nat_tests, rest.0, z)), rest.1))

or_shift : (e t w a b : Bool) → (((e || t) && w) || (a || b)) ≡ (((e && w) || a) || ((t && w) || b))
or_shift true t true a b = refl
or_shift true true false a b = refl
or_shift true false false a b = refl
or_shift false false w a b = refl
or_shift false true false a b = refl
or_shift false true true true b = refl
or_shift false true true false b = refl

column_left : (ss : List Span) (p : Position) (c d first last : ℕ) → Each (IsNextLeft c d) ss → is_covered_left_of ss p c first last ≡ (is_covered_from ss p d first last || is_covered_left_of ss p d first last)
column_left [] p c d first last all = refl
column_left (s ∷ ss) p c d first last all =
    rw (all.0, column_left ss p c d first last all.1) (or_shift (s.0.col == d) (nat_lt s.0.col d) (begins_within first last s && in_span p.row p.col s) (is_covered_from ss p d first last) (is_covered_left_of ss p d first last))

-- one column more
pub next-left : (ss : List Span) (p : Position) (c first last : ℕ) (t : Span) → IsAscending by_columns ss → last_before by_columns (column_place (at 0 c)) ss ≡ Some t → is_covered_left_of ss p c first last ≡ (is_covered_from ss p t.0.col first last || is_covered_left_of ss p t.0.col first last)
next-left ss p c first last t up h = column_left ss p c t.0.col first last (next_left c t ss up h).1

pub next-is_left : (ss : List Span) (c : ℕ) (t : Span) → IsAscending by_columns ss → last_before by_columns (column_place (at 0 c)) ss ≡ Some t → t.0.col < c
next-is_left ss c t up h = (next_left c t ss up h).0

-- ---- outside of an extent nothing stands, and an extent that is widened has all that it had

-- ---- each entry

each-then : {E : Type 0} (P Q : E → Type 0) → ((e : E) → P e → Q e) → (es : List E) → Each P es → Each Q es
each-then P Q then [] all = tt
each-then P Q then (e ∷ es) all = (then e all.0, each-then P Q then es all.1)

module _ {K V : Type 0} (order : Order K) (P : K × V → Type 0) where
  each-with_place : (k : K) (v : V) (es : List (K × V)) → Each P es → P (k, v) → Each P (with_place order k v es)
  each-with_place k v [] all one = (one, tt)
  each-with_place k v (e ∷ es) all one =
      elim (cases_Bool (before order e.0 k)) [
        | inl y ↦ rw y (all.0, each-with_place k v es all.1 one)
        | inr n ↦ elim (cases_Bool (same order e.0 k)) [ inl y ↦ rw (n, y) (one, all.1) | inr o ↦ rw (n, o) (one, all) ]
      ]

  pub each-without_place : (k : K) (es : List (K × V)) → Each P es → Each P (without_place order k es)
  each-without_place k [] all = tt
  each-without_place k (e ∷ es) all =
      elim (cases_Bool (same order e.0 k)) [
        | inl y ↦ rw y (each-without_place k es all.1)
        | inr n ↦ rw n (all.0, each-without_place k es all.1)
      ]

  -- the last entry up to a key has what each has
  last_up_to-has : (k : K) (es : List (K × V)) → Each P es → IfSome (last_up_to order k es) P
  last_up_to-has k [] all = tt
  last_up_to-has k (e ∷ es) all =
      elim (cases_Bool (comes order true e.0 k)) [
        | inl y ↦ rw y (or_first (last_up_to order k es) (last_up_to-has k es all.1))
        | inr n ↦ rw n tt
      ]
    where
      or_first : (o : Option (K × V)) → IfSome o P → P (unwrap_or o e)
      or_first None h = all.0
      or_first (Some f) h = h

-- ---- spans

pub spans-with_place : (e : Extent) (p : Position) (size : SpanSize) (ss : List Span) → Each (HasSpan e) ss → Each (HasSpan (with_rows p.row (last_row_of (column_place p, size)) p.col e)) (with_place by_columns (column_place p) size ss)
spans-with_place e p size ss all =
    let wide = with_rows p.row (last_row_of (column_place p, size)) p.col e in
    each-with_place by_columns (HasSpan wide) (column_place p) size ss (each-then (HasSpan e) (HasSpan wide) (λ s h. omega (arith, h)) ss all) (omega arith)

pub no-size-outside : (e : Extent) (p : Position) (ss : List Span) → p.row < 2 ^ 64 → Each (HasSpan e) ss → in_extent e p ≡ false → value_at by_columns (column_place p) ss ≡ None
no-size-outside e p [] fits all out = refl
no-size-outside e p (s ∷ ss) fits all out =
    let other : same by_columns s.0 (column_place p) ≡ false = grind (arith, nat_tests, fits, all.0, out) in
    rw other (no-size-outside e p ss fits all.1 out)

pub no-left_span-outside : (e : Extent) (p : Position) (ss : List Span) → p.row < 2 ^ 64 → Each (HasSpan e) ss → in_extent e p ≡ false → left_span ss p.row p.col ≡ None
no-left_span-outside e p ss fits all out = go (last_up_to by_columns (column_place p) ss) (last_up_to-has by_columns (HasSpan e) (column_place p) ss all)
  where
    go : (o : Option Span) → IfSome o (HasSpan e) → if_left p.row p.col o ≡ None
    go None h = refl
    go (Some s) h =
        let other : ((s.0.col == p.col) && in_span p.row p.col s) ≡ false = grind (arith, nat_tests, fits, h, out) in
        rw other refl

-- ---- cells of settings

module _ {X : Type 0} where
  pub cells-with_place : (e : Extent) (r c : ℕ) (x : X) (cells : List (Position × X)) → Each (HasCell e) cells → Each (HasCell (with_rows r r c e)) (with_place by_place (at r c) x cells)
  cells-with_place e r c x cells all =
      let wide = with_rows r r c e in
      each-with_place by_place (HasCell wide) (at r c) x cells (each-then (HasCell e) (HasCell wide) (λ d h. omega (arith, h)) cells all) (omega arith)

  pub no-cell-outside : (e : Extent) (p : Position) (cells : List (Position × X)) → Each (HasCell e) cells → in_extent e p ≡ false → value_at by_place p cells ≡ None
  no-cell-outside e p [] all out = refl
  no-cell-outside e p (d ∷ cells) all out =
      let other : same by_place d.0 p ≡ false = grind (arith, nat_tests, all.0, out) in
      rw other (no-cell-outside e p cells all.1 out)

-- ---- a rectangle that is told 1 in one direction is kept already, or has one row and one column

pub kept-or-one : (kept : Option SpanSize) (P : Type 0) → (IsSome kept → P) → (unwrap_or kept (span_size 1 1) ≡ span_size 1 1 → P) → P
kept-or-one None P again one = one refl
kept-or-one (Some size) P again one = again refl

-- the old number of rows with one column, where the size was of one row and one column
pub one-column : (size : SpanSize) (columns : ℕ) → size ≡ span_size 1 1 → columns ≡ 1 → span_size size.rows columns ≡ span_size 1 1
one-column size columns old is = ap (λ (s : SpanSize). span_size s.rows columns) old ∙ ap (λ n. span_size 1 n) is

pub one-row : (size : SpanSize) (rows : ℕ) → size ≡ span_size 1 1 → rows ≡ 1 → span_size rows size.columns ≡ span_size 1 1
one-row size rows old is = ap (λ (s : SpanSize). span_size rows s.columns) old ∙ ap (λ n. span_size n 1) is
