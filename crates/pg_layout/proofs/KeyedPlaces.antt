-- Entries in the order of their keys: what a lookup, a search and an edit give.
use Rattle.std.proofs.Common.{◌≡◌, true, false, refl, ap, ◌∙◌, inl, inr, Ordering, Less, Equal, Greater, Bool, ◌&&◌, ◌||◌, List, [], ◌∷◌, sym, None, not, Some, if◌then◌else◌, Option, unwrap_or, arith}
use Rattle.std.specs.Cmp.{IsTotalOrder, tied_itself, nat_cmp_total, on_total, then_total}
use Rattle.std.specs.Ordering.{ordering_reverse, nat_cmp, ordering_then}
use Rattle.std.proofs.lemmas.Bool.{cases_Bool, false≢true, or_parts}
use Rattle.pg_layout.specs.declared.position.ColumnPlace.{ColumnPlace}
use Rattle.pg_layout.specs.declared.position.Position.{Position}
use Rattle.pg_layout.specs.Keys.{Order, IsOrderOf, by_number, by_place, by_columns}
use Rattle.pg_layout.specs.KeyOrders.{number-order, place-order, columns-order}
use Rattle.std.specs.List.{filter}
use Rattle.pg_layout.specs.Places.{same, before, comes, value_at, with_place, without_place, Each, IsAscending, has_key, last_before, next_from, exchanged}
use Rattle.std.specs.Prelude.{option_map}
use Rattle.std.specs.Option.{IfSome}
use Rattle.std.proofs.lemmas.Bool.Decides.{nat_tests}
use Rattle.pg_layout.specs.Position.{is_at}
use Rattle.pg_layout.specs.Colors.{Color}
use Rattle.pg_layout.specs.ColorsMap.{color_at, IsColored}

-- ---- what the order of keys has that is the order of their comparison

-- of two keys that aren't one, exactly one stands before the other
pub record IsOrder {K : Type 0} (order : Order K) : Type 0 where
  pub trans : (a b c : K) → order.before a b ≡ true → order.before b c ≡ true → order.before a c ≡ true
  pub none_before_itself : (a : K) → order.before a a ≡ false
  pub some_before : (a b : K) → order.before a b ≡ false → order.same a b ≡ false → order.before b a ≡ true
  pub same_itself : (a : K) → order.same a a ≡ true
  pub same_is : (a b : K) → order.same a b ≡ true → a ≡ b

module _ {K : Type 0} {cmp : K → K → Ordering} {order : Order K} (total : IsTotalOrder cmp) (of : IsOrderOf cmp order) where
  less-from : (a b : K) → order.before a b ≡ true → cmp a b ≡ Less
  less-from a b h = of.is a b ∙ rw h refl

  before-from : (a b : K) → cmp a b ≡ Less → order.before a b ≡ true
  before-from a b less =
      elim (cases_Bool (order.before a b)) [
        | inl y ↦ y
        | inr n ↦ elim (cases_Bool (order.same a b)) [
          | inl s ↦ let equal : cmp a b ≡ Equal = of.is a b ∙ rw (n, s) refl in absurd (cc)
          | inr o ↦ let greater : cmp a b ≡ Greater = of.is a b ∙ rw (n, o) refl in absurd (cc)
        ]
      ]

  not-before-itself : (a : K) → order.before a a ≡ false
  not-before-itself a =
      elim (cases_Bool (order.before a a)) [
        | inl y ↦ let less = less-from a a y in let equal = tied_itself total a in absurd (cc)
        | inr n ↦ n
      ]

  one-before : (a b : K) → order.before a b ≡ false → order.same a b ≡ false → order.before b a ≡ true
  one-before a b n o =
      let greater : cmp a b ≡ Greater = of.is a b ∙ rw (n, o) refl in
      before-from b a (total.antisymm b a ∙ ap ordering_reverse greater)

  itself : (a : K) → order.same a a ≡ true
  itself a =
      elim (cases_Bool (order.same a a)) [
        | inl y ↦ y
        | inr o ↦
            let greater : cmp a a ≡ Greater = of.is a a ∙ rw (not-before-itself a, o) refl in
            let equal = tied_itself total a in
            absurd (cc)
      ]

  pub order-laws : IsOrder order
  order-laws = record {
    trans = λ a b c h k. before-from a c (total.trans a b c (less-from a b h) (less-from b c k));
    none_before_itself = not-before-itself;
    some_before = one-before;
    same_itself = itself;
    same_is = of.same_is;
  }

pub number-laws : IsOrder by_number
number-laws = order-laws nat_cmp_total number-order

pub place-total : IsTotalOrder (λ (a b : Position). ordering_then (nat_cmp a.row b.row) (nat_cmp a.col b.col))
place-total = then_total (on_total (λ (p : Position). p.row) nat_cmp_total) (on_total (λ (p : Position). p.col) nat_cmp_total)

pub place-laws : IsOrder by_place
place-laws = order-laws place-total place-order

pub columns-laws : IsOrder by_columns
columns-laws = order-laws (then_total (on_total (λ (p : ColumnPlace). p.col) nat_cmp_total) (on_total (λ (p : ColumnPlace). p.row) nat_cmp_total)) columns-order

-- ---- what an order of keys tells, and what keeps entries in it

module _ {K : Type 0} {order : Order K} (is : IsOrder order) where
  -- of two keys one of which stands before the other
  pub before-not_same : (a b : K) → before order a b ≡ true → same order a b ≡ false
  before-not_same a b h =
      elim (cases_Bool (same order a b)) [
        | inl y ↦ let one = is.same_is a b y in let none = is.none_before_itself b in absurd (cc)
        | inr n ↦ n
      ]

  pub before-not_back : (a b : K) → before order a b ≡ true → before order b a ≡ false
  before-not_back a b h =
      elim (cases_Bool (before order b a)) [
        | inl y ↦ let round = is.trans a b a h y in let none = is.none_before_itself a in absurd (cc)
        | inr n ↦ n
      ]

  pub same-turned : (a b : K) → same order a b ≡ same order b a
  same-turned a b =
      elim (cases_Bool (same order a b)) [
        | inl y ↦ ap (λ x. same order x b) (is.same_is a b y) ∙ ap (λ x. same order b x) (sym (is.same_is a b y))
        | inr n ↦ elim (cases_Bool (same order b a)) [
          | inl y ↦ ap (λ x. same order a x) (is.same_is b a y) ∙ ap (λ x. same order x a) (sym (is.same_is b a y))
          | inr o ↦ n ∙ sym o
        ]
      ]

  pub before-not_same_back : (a b : K) → before order a b ≡ true → same order b a ≡ false
  before-not_same_back a b h = same-turned b a ∙ before-not_same a b h

  -- a key that stands before another and not before a third: the third stands before the other
  pub before-past : (a b k : K) → before order a b ≡ true → before order a k ≡ false → before order k b ≡ true
  before-past a b k h n =
      elim (cases_Bool (same order a k)) [
        | inl y ↦ let one = is.same_is a k y in (cc)
        | inr o ↦ is.trans k a b (is.some_before a k n o) h
      ]

  pub before-comes : (too : Bool) (a b c : K) → before order a b ≡ true → comes order too b c ≡ true → comes order too a c ≡ true
  before-comes too a b c h k =
      let less : before order a c ≡ true = elim (cases_Bool (same order b c)) [
        | inl y ↦ let one = is.same_is b c y in (cc)
        | inr n ↦ is.trans a b c h (later too (same order b c) (before order b c) k n)
      ] in
      rw less (always (too && same order a c))
    where
      later : (t s l : Bool) → ((t && s) || l) ≡ true → s ≡ false → l ≡ true
      later true true l h n = absurd (false≢true (sym n))
      later true false l h n = h
      later false s l h n = h

      always : (b : Bool) → (b || true) ≡ true
      always true = refl
      always false = refl

module _ {K V : Type 0} {order : Order K} (is : IsOrder order) where
  -- entries that all come after the key
  pub all-behind : (k : K) (e : K × V) (es : List (K × V)) → before order e.0 k ≡ false → Each (λ f. before order e.0 f.0 ≡ true) es → Each (λ f. before order k f.0 ≡ true) es
  all-behind k e [] n up = tt
  all-behind k e (f ∷ es) n up = (before-past is e.0 f.0 k up.0 n, all-behind k e es n up.1)

  -- don't hold it
  pub none_after : (k : K) (es : List (K × V)) (e : K × V) → Each (λ f. before order e.0 f.0 ≡ true) es → before order e.0 k ≡ false → value_at order k es ≡ None
  none_after k [] e up w = refl
  none_after k (f ∷ es) e up w =
      let other : same order f.0 k ≡ false = before-not_same_back is k f.0 (before-past is e.0 f.0 k up.0 w) in
      rw other (none_after k es e up.1 w)

  -- and stay where it is taken out
  pub all-stay : (k : K) (es : List (K × V)) → Each (λ f. before order k f.0 ≡ true) es → without_place order k es ≡ es
  all-stay k [] all = refl
  all-stay k (f ∷ es) all = rw (before-not_same_back is k f.0 all.0) (ap (λ z. f ∷ z) (all-stay k es all.1))

  -- the order is kept
  Each-with_place : (P : K × V → Type 0) (k : K) (v : V) (es : List (K × V)) → Each P es → P (k, v) → Each P (with_place order k v es)
  Each-with_place P k v [] all one = (one, tt)
  Each-with_place P k v (e ∷ es) all one =
      elim (cases_Bool (before order e.0 k)) [
        | inl y ↦ rw y (all.0, Each-with_place P k v es all.1 one)
        | inr n ↦ elim (cases_Bool (same order e.0 k)) [ inl y ↦ rw (n, y) (one, all.1) | inr o ↦ rw (n, o) (one, all) ]
      ]

  pub IsAscending-with_place : (k : K) (v : V) (es : List (K × V)) → IsAscending order es → IsAscending order (with_place order k v es)
  IsAscending-with_place k v [] up = (tt, tt)
  IsAscending-with_place k v (e ∷ es) up =
      elim (cases_Bool (before order e.0 k)) [
        | inl y ↦ rw y (Each-with_place (λ f. before order e.0 f.0 ≡ true) k v es up.0 y, IsAscending-with_place k v es up.1)
        | inr n ↦
            let behind : Each (λ f. before order k f.0 ≡ true) es = all-behind k e es n up.0 in
            elim (cases_Bool (same order e.0 k)) [
              | inl y ↦ rw (n, y) (behind, up.1)
              | inr o ↦ rw (n, o) ((is.some_before e.0 k n o, behind), up)
            ]
      ]

  Each-filter : (P : K × V → Type 0) (p : K × V → Bool) (es : List (K × V)) → Each P es → Each P (filter p es)
  Each-filter P p [] all = tt
  Each-filter P p (e ∷ es) all = elim (cases_Bool (p e)) [ inl y ↦ rw y (all.0, Each-filter P p es all.1) | inr n ↦ rw n (Each-filter P p es all.1) ]

  pub IsAscending-filter : (p : K × V → Bool) (es : List (K × V)) → IsAscending order es → IsAscending order (filter p es)
  IsAscending-filter p [] up = tt
  IsAscending-filter p (e ∷ es) up =
      elim (cases_Bool (p e)) [ inl y ↦ rw y (Each-filter (λ f. before order e.0 f.0 ≡ true) p es up.0, IsAscending-filter p es up.1) | inr n ↦ rw n (IsAscending-filter p es up.1) ]

-- ---- what a lookup gives after an edit

module _ {K V : Type 0} {order : Order K} (is : IsOrder order) where
  -- the key holds the new value, and any other key what it held before
  pub value_at-with_place : (q k : K) (v : V) (es : List (K × V)) → value_at order q (with_place order k v es) ≡ (if same order k q then Some v else value_at order q es)
  value_at-with_place q k v [] = refl
  value_at-with_place q k v (e ∷ es) =
      elim (cases_Bool (before order e.0 k)) [
        | inl y ↦ elim (cases_Bool (same order e.0 q)) [
          | inl here ↦
              let one = is.same_is e.0 q here in
              let back : same order k e.0 ≡ false = before-not_same_back is e.0 k y in
              let other : same order k q ≡ false = (cc) in
              rw (y, here, other) refl
          | inr away ↦ rw (y, away) (value_at-with_place q k v es)
        ]
        | inr n ↦ elim (cases_Bool (same order e.0 k)) [
          | inl s ↦ elim (cases_Bool (same order k q)) [
            | inl here ↦ rw (n, s, here) refl
            | inr away ↦
                let one = is.same_is e.0 k s in
                let other : same order e.0 q ≡ false = (cc) in
                rw (n, s, away, other) refl
          ]
          | inr o ↦ rw (n, o) refl
        ]
      ]

  -- a filter by keys takes out what it refuses, and leaves the rest
  pub value_at-filter : (q : K) (p : K → Bool) (es : List (K × V)) → value_at order q (filter (λ e. p e.0) es) ≡ (if p q then value_at order q es else None)
  value_at-filter q p [] = elim (cases_Bool (p q)) [ inl y ↦ rw y refl | inr n ↦ rw n refl ]
  value_at-filter q p (e ∷ es) =
      elim (cases_Bool (same order e.0 q)) [
        | inl here ↦
            let one : p e.0 ≡ p q = ap p (is.same_is e.0 q here) in
            elim (cases_Bool (p q)) [
              | inl y ↦ rw (one ∙ y, here, y) refl
              | inr n ↦ rw (one ∙ n, n) (value_at-filter q p es ∙ rw n refl)
            ]
        | inr away ↦ elim (cases_Bool (p e.0)) [
          | inl y ↦ rw (y, away) (value_at-filter q p es)
          | inr n ↦ rw (n, away) (value_at-filter q p es)
        ]
      ]

  pub value_at-without_place : (q k : K) (es : List (K × V)) → value_at order q (without_place order k es) ≡ (if same order q k then None else value_at order q es)
  value_at-without_place q k es =
      value_at-filter q (λ a. not (same order a k)) es ∙ elim (cases_Bool (same order q k)) [ inl y ↦ rw y refl | inr n ↦ rw n refl ]

  -- a key that passes a test has no value where none passes it
  pub value_at-no_key : (p : K → Bool) (k : K) (es : List (K × V)) → p k ≡ true → has_key p es ≡ false → value_at order k es ≡ None
  value_at-no_key p k [] here none = refl
  value_at-no_key p k (e ∷ es) here none =
      let parts = or_parts (p e.0) (has_key p es) none in
      elim (cases_Bool (same order e.0 k)) [
        | inl y ↦ let one = ap p (is.same_is e.0 k y) in absurd (false≢true (sym parts.0 ∙ one ∙ here))
        | inr o ↦ rw o (value_at-no_key p k es here parts.1)
      ]

-- ---- what a search before a key or from it on tells of the other entries

abbrev pub passes : {K : Type 0} → (K → Bool) → Option K → Bool
passes p None = false
passes p (Some a) = p a

module _ {E : Type 0} where
  pub each-both : (P Q : E → Type 0) (es : List E) → Each P es → Each Q es → Each (λ e. P e × Q e) es
  each-both P Q [] a b = tt
  each-both P Q (e ∷ es) a b = ((a.0, b.0), each-both P Q es a.1 b.1)

  pub each-all : (P : E → Type 0) → ((e : E) → P e) → (es : List E) → Each P es
  each-all P f [] = tt
  each-all P f (e ∷ es) = (f e, each-all P f es)

module _ {K V : Type 0} (order : Order K) where
  -- the last entry before a key has what each has, and stands before the key
  pub last-is : (P : K × V → Type 0) (k : K) (es : List (K × V)) → Each P es → IfSome (last_before order k es) (λ e. P e × (before order e.0 k ≡ true))
  last-is P k [] all = tt
  last-is P k (e ∷ es) all =
      elim (cases_Bool (before order e.0 k)) [
        | inl y ↦ rw y (or_first (last_before order k es) (last-is P k es all.1) y)
        | inr n ↦ rw n tt
      ]
    where
      or_first : (o : Option (K × V)) → IfSome o (λ f. P f × (before order f.0 k ≡ true)) → before order e.0 k ≡ true → P (unwrap_or o e) × (before order (unwrap_or o e).0 k ≡ true)
      or_first None h y = (all.0, y)
      or_first (Some f) h y = h

module _ {K V : Type 0} {order : Order K} (is : IsOrder order) where
  -- where an entry doesn't stand before the key, none behind it does
  pub behind-stay : (k : K) (e : K × V) (es : List (K × V)) → before order e.0 k ≡ false → Each (λ f. before order e.0 f.0 ≡ true) es → Each (λ f. before order f.0 k ≡ false) es
  behind-stay k e es n up = turned es (all-behind is k e es n up)
    where
      turned : (fs : List (K × V)) → Each (λ f. before order k f.0 ≡ true) fs → Each (λ f. before order f.0 k ≡ false) fs
      turned [] all = tt
      turned (f ∷ fs) all = (before-not_back is k f.0 all.0, turned fs all.1)

  -- where a search finds none, none stands before the key
  pub none-before : (k : K) (es : List (K × V)) → IsAscending order es → last_before order k es ≡ None → Each (λ f. before order f.0 k ≡ false) es
  none-before k [] up h = tt
  none-before k (e ∷ es) up h =
      elim (cases_Bool (before order e.0 k)) [
        | inl y ↦ let some = (rw y at h) in absurd (cc)
        | inr n ↦ (n, behind-stay k e es n up.0)
      ]

  -- a test that holds at none before the key, and at none after an entry past the key that fails it, holds somewhere only where it does at the first key from that one on
  module _ (p : K → Bool) (k : K) (early : (a : K) → before order a k ≡ true → p a ≡ false) (late : (a b : K) → before order a k ≡ false → p a ≡ false → before order a b ≡ true → p b ≡ false) where
    none_later : (es : List (K × V)) (e : K × V) → Each (λ f. before order e.0 f.0 ≡ true) es → before order e.0 k ≡ false → p e.0 ≡ false → has_key p es ≡ false
    none_later [] e up n o = refl
    none_later (f ∷ es) e up n o = rw (late e.0 f.0 n o up.0) (none_later es e up.1 n o)

    pub has_key-first : (es : List (K × V)) → IsAscending order es → has_key p es ≡ passes p (option_map (λ e. e.0) (next_from order k es))
    has_key-first [] up = refl
    has_key-first (e ∷ es) up =
        elim (cases_Bool (before order e.0 k)) [
          | inl y ↦ rw (y, early e.0 y) (has_key-first es up.1)
          | inr n ↦ rw n (elim (cases_Bool (p e.0)) [ inl s ↦ rw s refl | inr o ↦ rw o (none_later es e up.0 n o) ])
        ]

-- ---- to exchange what an exchange answered makes all as before

module _ {K V : Type 0} {order : Order K} (is : IsOrder order) (k : K) where
  -- what comes before the key stays
  exchanged-past : (w : Option V) (e : K × V) (es : List (K × V)) → before order e.0 k ≡ true → exchanged order k w (e ∷ es) ≡ e ∷ exchanged order k w es
  exchanged-past None e es y = rw (before-not_same is e.0 k y) refl
  exchanged-past (Some v) e es y = rw y refl

  -- before entries that come after the key it is put first
  put-first : (v : V) (es : List (K × V)) → Each (λ f. before order k f.0 ≡ true) es → with_place order k v es ≡ (k, v) ∷ es
  put-first v [] all = refl
  put-first v (f ∷ es) all = rw (before-not_back is k f.0 all.0, before-not_same_back is k f.0 all.0) refl

  -- the entry of the key, in its words
  own : (e : K × V) (es : List (K × V)) → same order e.0 k ≡ true → (k, e.1) ∷ es ≡ e ∷ es
  own e es y = ap (λ a. (a, e.1) ∷ es) (sym (is.same_is e.0 k y))

  -- a key that is the first one or comes before it
  first-back : (w : Option V) (e : K × V) (es : List (K × V)) → IsAscending order (e ∷ es) → before order e.0 k ≡ false → exchanged order k (value_at order k (e ∷ es)) (exchanged order k w (e ∷ es)) ≡ e ∷ es
  first-back None e es up n =
      let behind : Each (λ f. before order k f.0 ≡ true) es = all-behind is k e es n up.0 in
      elim (cases_Bool (same order e.0 k)) [
        | inl y ↦ rw (y, all-stay is k es behind) (put-first e.1 es behind ∙ own e es y)
        | inr o ↦ rw (o, all-stay is k es behind, none_after is k es e up.0 n, o, all-stay is k es behind) refl
      ]
  first-back (Some v) e es up n =
      let behind : Each (λ f. before order k f.0 ≡ true) es = all-behind is k e es n up.0 in
      elim (cases_Bool (same order e.0 k)) [
        | inl y ↦ rw (n, y, is.none_before_itself k, is.same_itself k) (own e es y)
        | inr o ↦ rw (n, o, none_after is k es e up.0 n, is.same_itself k, o, all-stay is k es behind) refl
      ]

  pub exchanged-back : (w : Option V) (es : List (K × V)) → IsAscending order es → exchanged order k (value_at order k es) (exchanged order k w es) ≡ es
  exchanged-back None [] up = refl
  exchanged-back (Some v) [] up = rw (is.same_itself k) refl
  exchanged-back w (e ∷ es) up =
      elim (cases_Bool (before order e.0 k)) [
        | inl y ↦
            ap (λ x. exchanged order k (value_at order k (e ∷ es)) x) (exchanged-past w e es y)
            ∙ rw (before-not_same is e.0 k y) (exchanged-past (value_at order k es) e (exchanged order k w es) y ∙ ap (λ xs. e ∷ xs) (exchanged-back w es up.1))
        | inr n ↦ first-back w e es up n
      ]

-- ---- what colours that are set by place show after one more

-- to be one key is to be at its row and column
pub same-is_at : (p q : Position) → same by_place p q ≡ is_at q p.row p.col
same-is_at p q =
    elim (cases_Bool (is_at q p.row p.col)) [
      | inl y ↦ let here : same by_place p q ≡ true = grind (arith, nat_tests, y) in here ∙ sym y
      | inr n ↦ let away : same by_place p q ≡ false = grind (arith, nat_tests, n) in away ∙ sym n
    ]

-- the place has its new colour, and the others keep theirs
pub IsColored-with_place : (p : Position) (color : Color) (old was now : List (Position × Color)) → was ≡ old → now ≡ with_place by_place p color was → IsColored p color old now
IsColored-with_place p color old was now is done q =
    ap (λ colors. color_at q colors) (done ∙ ap (λ colors. with_place by_place p color colors) is) ∙ value_at-with_place place-laws q p color old ∙ ap (λ here. if here then Some color else color_at q old) (same-is_at p q)
