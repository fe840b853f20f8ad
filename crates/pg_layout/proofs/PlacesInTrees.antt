-- What a tree's searches and edits are, among entries in the order of their keys.
use Rattle.std.proofs.Common.{◌≡◌, Bool, true, false, not, ◌&&◌, List, [], ◌∷◌, ◌++◌, map, suc, refl, sym, ap, arith, ◌∙◌, Option, Some, None, unwrap_or, inl, inr, if◌then◌else◌, is_le, is_lt, is_gt, Ordering}
use Rattle.std.specs.Cmp.{IsTotalOrder}
use Rattle.std.specs.List.{All}
use Rattle.std.specs.Map.{lookup, remove_entry}
use Rattle.std.specs.BTreeMap.{insert_entry, is_at}
use Rattle.std.specs.BTreeMap.Range.{entries_between, range_contains}
use Rattle.std.specs.declared.ops.Bound.{Bound}
use Rattle.std.specs.declared.ops.Bound.TheVariants.{Included, Excluded, Unbounded}
use Rattle.std.proofs.lemmas.Bool.{cases_Bool}
use Rattle.pg_layout.specs.Keys.{Order, IsOrderOf}
use Rattle.pg_layout.specs.Places.{same, before, comes, value_at, with_place, without_place, last_up_to, last_before, next_from, between, Each, IsAscending}
use Rattle.pg_layout.proofs.KeyedPlaces.{IsOrder, order-laws, before-not_back, before-not_same_back, same-turned, before-comes, all-behind, all-stay}

module _ {K V : Type 0} where
  abbrev pub last_of : List (K × V) → Option (K × V)
  last_of [] = None
  last_of (e ∷ es) = Some (unwrap_or (last_of es) e)

  pub last_of-end : (t : List (K × V)) (e : K × V) → last_of (t ++ e ∷ []) ≡ Some e
  last_of-end [] e = refl
  last_of-end (f ∷ t) e = rw (last_of-end t e) refl

  -- the last entry in front of the first one that fails the test
  abbrev last_where : (K → Bool) → List (K × V) → Option (K × V)
  last_where p [] = None
  last_where p (e ∷ es) = if p e.0 then Some (unwrap_or (last_where p es) e) else None

  abbrev pub first_of : List (K × V) → Option (K × V)
  first_of [] = None
  first_of (e ∷ es) = Some e

module _ {K : Type 0} {cmp : K → K → Ordering} {order : Order K} (total : IsTotalOrder cmp) (of : IsOrderOf cmp order) where
  laws : IsOrder order
  laws = order-laws total of

  -- the tests by the comparison
  is_at-key : (k a : K) → is_at (cmp k) a ≡ same order a k
  is_at-key k a =
      elim (cases_Bool (before order k a)) [
        | inl y ↦ rw (of.is k a, y, before-not_same_back laws k a y) refl
        | inr n ↦ elim (cases_Bool (same order k a)) [
          | inl s ↦ rw (of.is k a, n, s, same-turned laws a k ∙ s) refl
          | inr o ↦ rw (of.is k a, n, o, same-turned laws a k ∙ o) refl
        ]
      ]

  -- a key is at most another, where the other doesn't stand before it
  is_le-key : (k a : K) → is_le (cmp k a) ≡ not (before order a k)
  is_le-key k a =
      elim (cases_Bool (before order k a)) [
        | inl y ↦ rw (of.is k a, y, before-not_back laws k a y) refl
        | inr n ↦ elim (cases_Bool (same order k a)) [
          | inl s ↦
              let one = laws.same_is k a s in
              let none = laws.none_before_itself k in
              let o : before order a k ≡ false = (cc) in
              rw (of.is k a, n, s, o) refl
          | inr m ↦ rw (of.is k a, n, m, laws.some_before k a n m) refl
        ]
      ]

  pub is_lt-key : (k a : K) → is_lt (cmp k a) ≡ before order k a
  is_lt-key k a =
      elim (cases_Bool (before order k a)) [
        | inl y ↦ rw (of.is k a, y) refl
        | inr n ↦ rw (of.is k a, n) (elim (cases_Bool (same order k a)) [ inl s ↦ rw s refl | inr m ↦ rw m refl ])
      ]

  -- forward, for a search between two keys
  pub forward-key : (from to : K) → before order to from ≡ false → is_gt (cmp from to) ≡ false
  forward-key from to n =
      elim (cases_Bool (before order from to)) [
        | inl y ↦ rw (of.is from to, y) refl
        | inr m ↦ elim (cases_Bool (same order from to)) [
          | inl s ↦ rw (of.is from to, m, s) refl
          | inr o ↦ let some = laws.some_before from to m o in absurd (cc)
        ]
      ]

  not_before-comes : (a k : K) → not (before order k a) ≡ comes order true a k
  not_before-comes a k =
      elim (cases_Bool (before order k a)) [
        | inl y ↦ rw (y, before-not_same_back laws k a y, before-not_back laws k a y) refl
        | inr n ↦ elim (cases_Bool (same order a k)) [
          | inl s ↦ rw (n, s) refl
          | inr o ↦ rw (n, o, laws.some_before k a n (same-turned laws k a ∙ o)) refl
        ]
      ]

  up_to-key : (k a : K) → range_contains cmp Unbounded (Included k) a ≡ comes order true a k
  up_to-key k a = ap not (is_lt-key k a) ∙ not_before-comes a k

  twice-not : (b : Bool) → not (not b) ≡ b
  twice-not true = refl
  twice-not false = refl

  below-key : (k a : K) → range_contains cmp Unbounded (Excluded k) a ≡ before order a k
  below-key k a = ap not (is_le-key k a) ∙ twice-not (before order a k)

  and-true : (b : Bool) → b && true ≡ b
  and-true true = refl
  and-true false = refl

  from-key : (k a : K) → range_contains cmp (Included k) Unbounded a ≡ not (before order a k)
  from-key k a = and-true (is_le (cmp k a)) ∙ is_le-key k a

  within-key : (from to a : K) → range_contains cmp (Included from) (Included to) a ≡ (not (before order a from) && not (before order to a))
  within-key from to a = rw (is_le-key from a, is_lt-key to a) refl

  past-comes : (too : Bool) (k a b : K) → comes order too a k ≡ false → before order a b ≡ true → comes order too b k ≡ false
  past-comes too k a b n h =
      elim (cases_Bool (comes order too b k)) [
        | inl y ↦ let some = before-comes laws too a b k h y in absurd (cc)
        | inr m ↦ m
      ]

  -- a key that the last one doesn't stand before comes before what the last one stands before
  before-past_last : (last a k : K) → before order last a ≡ false → before order last k ≡ true → before order a k ≡ true
  before-past_last last a k n h =
      elim (cases_Bool (same order last a)) [
        | inl s ↦ let one = laws.same_is last a s in (cc)
        | inr o ↦ laws.trans a last k (laws.some_before last a n o) h
      ]

  module _ {V : Type 0} where
    -- what a lookup finds
    pub lookup-key : (k : K) (es : List (K × V)) → lookup (is_at (cmp k)) es ≡ value_at order k es
    lookup-key k [] = refl
    lookup-key k (e ∷ es) =
        elim (cases_Bool (same order e.0 k)) [ inl y ↦ rw (is_at-key k e.0, y) refl | inr n ↦ rw (is_at-key k e.0, n) (lookup-key k es) ]

    -- what an insert makes
    pub insert-key : (k : K) (v : V) (es : List (K × V)) → insert_entry cmp es k v ≡ with_place order k v es
    insert-key k v [] = refl
    insert-key k v (e ∷ es) =
        elim (cases_Bool (before order k e.0)) [
          | inl y ↦ rw (of.is k e.0, y, before-not_back laws k e.0 y, before-not_same_back laws k e.0 y) refl
          | inr m ↦ elim (cases_Bool (same order k e.0)) [
            | inl s ↦
                let one = laws.same_is k e.0 s in
                let none = laws.none_before_itself k in
                let n : before order e.0 k ≡ false = (cc) in
                rw (of.is k e.0, m, s, n, same-turned laws e.0 k ∙ s) (ap (λ a. (a, v) ∷ es) (sym one))
            | inr o ↦ rw (of.is k e.0, m, o, laws.some_before k e.0 m o) (ap (λ z. e ∷ z) (insert-key k v es))
          ]
        ]

    -- what a removal leaves
    pub remove-key : (k : K) (es : List (K × V)) → IsAscending order es → remove_entry (is_at (cmp k)) es ≡ without_place order k es
    remove-key k [] up = refl
    remove-key k (e ∷ es) up =
        elim (cases_Bool (same order e.0 k)) [
          | inl y ↦
              let one = laws.same_is e.0 k y in
              let none = laws.none_before_itself k in
              let n : before order e.0 k ≡ false = (cc) in
              rw (is_at-key k e.0, y) (sym (all-stay laws k es (all-behind laws k e es n up.0)))
          | inr o ↦ rw (is_at-key k e.0, o) (ap (λ z. e ∷ z) (remove-key k es up.1))
        ]

    -- the last entry of a range with no start, where each key past an entry outside of it is outside, too
    module _ (end : Bound K) (p : K → Bool) (inside : (a : K) → range_contains cmp Unbounded end a ≡ p a) (past : (a b : K) → p a ≡ false → before order a b ≡ true → p b ≡ false) where
      none_past : (es : List (K × V)) (e : K × V) → Each (λ f. before order e.0 f.0 ≡ true) es → p e.0 ≡ false → entries_between cmp Unbounded end es ≡ []
      none_past [] e up n = refl
      none_past (f ∷ es) e up n = rw (inside f.0 ∙ past e.0 f.0 n up.0) (none_past es e up.1 n)

      last_where-range : (es : List (K × V)) → IsAscending order es → last_where p es ≡ last_of (entries_between cmp Unbounded end es)
      last_where-range [] up = refl
      last_where-range (e ∷ es) up =
          elim (cases_Bool (p e.0)) [
            | inl y ↦ rw (y, inside e.0 ∙ y) (ap (λ o. Some (unwrap_or o e)) (last_where-range es up.1))
            | inr n ↦ rw (n, inside e.0 ∙ n) (sym (ap last_of (none_past es e up.0 n)))
          ]

    last_up_to-where : (k : K) (es : List (K × V)) → last_up_to order k es ≡ last_where (λ a. comes order true a k) es
    last_up_to-where k [] = refl
    last_up_to-where k (e ∷ es) = rw (last_up_to-where k es) refl

    last_before-where : (k : K) (es : List (K × V)) → last_before order k es ≡ last_where (λ a. before order a k) es
    last_before-where k [] = refl
    last_before-where k (e ∷ es) = rw (last_before-where k es) refl

    -- the last entry up to a key, and that before it, is the last of a range
    pub last_up_to-key : (k : K) (es : List (K × V)) → IsAscending order es → last_up_to order k es ≡ last_of (entries_between cmp Unbounded (Included k) es)
    last_up_to-key k es up = last_up_to-where k es ∙ last_where-range (Included k) (λ a. comes order true a k) (up_to-key k) (past-comes true k) es up

    pub last_before-key : (k : K) (es : List (K × V)) → IsAscending order es → last_before order k es ≡ last_of (entries_between cmp Unbounded (Excluded k) es)
    last_before-key k es up = last_before-where k es ∙ last_where-range (Excluded k) (λ a. before order a k) (below-key k) (past-comes false k) es up

    -- the first entry from a key on is the first of a range
    pub next_from-key : (k : K) (es : List (K × V)) → next_from order k es ≡ first_of (entries_between cmp (Included k) Unbounded es)
    next_from-key k [] = refl
    next_from-key k (e ∷ es) =
        elim (cases_Bool (before order e.0 k)) [ inl y ↦ rw (from-key k e.0, y) (next_from-key k es) | inr n ↦ rw (from-key k e.0, n) refl ]

    -- no entry is found from a key on that the last one stands before
    pub next_from-past : (last k : K) (es : List (K × V)) → All (λ a. is_lt (cmp last a) ≡ false) (map (λ e. e.0) es) → before order last k ≡ true → next_from order k es ≡ None
    next_from-past last k [] all h = refl
    next_from-past last k (e ∷ es) all h =
        rw (before-past_last last e.0 k (sym (is_lt-key last e.0) ∙ all 0 e.0 (omega arith)) h) (next_from-past last k es (λ i d l. all (suc i) d (omega (arith, l))) h)

    -- a range is the entries from its first key on and up to its last
    pub between-key : (from to : K) (es : List (K × V)) → entries_between cmp (Included from) (Included to) es ≡ between order from to es
    between-key from to [] = refl
    between-key from to (e ∷ es) =
        let is = within-key from to e.0 in
        elim (cases_Bool (not (before order e.0 from) && not (before order to e.0))) [
          | inl y ↦ rw (is ∙ y, y) (ap (λ z. e ∷ z) (between-key from to es))
          | inr n ↦ rw (is ∙ n, n) (between-key from to es)
        ]
