-- What edits of values by key do to lookups and to tests of keys.
use Rattle.std.proofs.Common.{◌≡◌, Bool, true, false, ◌&&◌, ◌||◌, List, [], ◌∷◌, refl, ap, ◌∙◌, Option, Some, None, if◌then◌else◌, inl, inr, ℕ, arith, ◌==◌, sym, ◌++◌, subst}
use Rattle.std.specs.Prelude.{is_some, option_map, IsSome}
use Rattle.std.specs.Option.{option_or}
use Rattle.std.proofs.lemmas.Bool.{cases_Bool}
use Rattle.pg_layout.specs.Keys.{Order, by_place, by_columns, column_place, in_row, in_column, by_number}
use Rattle.pg_layout.proofs.KeyedPlaces.{IsOrder, value_at-with_place, order-laws, place-total, place-laws, columns-laws, has_key-first, passes, number-laws}
use Rattle.pg_layout.specs.Places.{same, before, value_at, with_place, with_some, has_key, next_from, IsAscending, exchanged}
use Rattle.std.specs.Cmp.{nat_cmp_total, on_total, then_total}
use Rattle.pg_config.specs.declared.offsets.GlyphPlace.{GlyphPlace}
use Rattle.pg_config.specs.GlyphOrder.{glyph-order}
use Rattle.pg_config.specs.Offsets.{by_glyph, only_if, glyph_at, of_place}
use Rattle.std.proofs.lemmas.Bool.Decides.{nat_tests}
use Rattle.pg_layout.specs.declared.position.ColumnPlace.{ColumnPlace}
use Rattle.pg_layout.specs.declared.position.Position.{Position}
use Rattle.pg_layout.specs.Position.{at}
use Rattle.pg_config.specs.Overrides.{HasColumns}
use Rattle.pg_config.specs.Inside.{taken_back, CanTakeBack}

-- ---- what an edit of values by key does to a lookup and to a test of keys

pub or_swap : (a b c : Bool) → (a || (b || c)) ≡ (b || (a || c))
or_swap true true c = refl
or_swap true false c = refl
or_swap false b c = refl

or_twice : (a c : Bool) → (a || c) ≡ (a || (a || c))
or_twice true c = refl
or_twice false c = refl

module _ {K V : Type 0} {order : Order K} (is : IsOrder order) where
  -- the key holds the new value if there is one, and any other key what it held before
  pub value_at-with_some : (q k : K) (v : Option V) (es : List (K × V)) → value_at order q (with_some order k v es) ≡ (if same order k q then option_or v (value_at order q es) else value_at order q es)
  value_at-with_some q k None es = elim (cases_Bool (same order k q)) [ inl y ↦ rw y refl | inr n ↦ rw n refl ]
  value_at-with_some q k (Some v) es = value_at-with_place is q k v es

  -- a test of keys holds somewhere after an edit if it holds at the edited key, or held somewhere before
  pub any-with_place : (p : K → Bool) (k : K) (v : V) (es : List (K × V)) → has_key p (with_place order k v es) ≡ (p k || has_key p es)
  any-with_place p k v [] = refl
  any-with_place p k v (e ∷ es) =
      elim (cases_Bool (before order e.0 k)) [
        | inl y ↦ rw y (ap (λ b. p e.0 || b) (any-with_place p k v es) ∙ or_swap (p e.0) (p k) (has_key p es))
        | inr n ↦ elim (cases_Bool (same order e.0 k)) [
          | inl s ↦ rw (n, s, ap p (is.same_is e.0 k s)) (or_twice (p k) (has_key p es))
          | inr o ↦ rw (n, o) refl
        ]
      ]

  pub any-with_some : (p : K → Bool) (k : K) (v : Option V) (es : List (K × V)) → has_key p (with_some order k v es) ≡ ((p k && is_some v) || has_key p es)
  any-with_some p k None es = elim (cases_Bool (p k)) [ inl y ↦ rw y refl | inr n ↦ rw n refl ]
  any-with_some p k (Some v) es = any-with_place p k v es ∙ elim (cases_Bool (p k)) [ inl y ↦ rw y refl | inr n ↦ rw n refl ]

-- ---- what the order of glyphs has, and what is answered for glyphs that are there

pub glyph-laws : IsOrder by_glyph
glyph-laws = order-laws (then_total (on_total (λ (g : GlyphPlace). g.pos) place-total) (on_total (λ (g : GlyphPlace). g.number) nat_cmp_total)) glyph-order

pub only_if_is : {V : Type 0} (test : Bool) (o : Option V) → only_if test o ≡ (if test then o else None)
only_if_is true None = refl
only_if_is false None = refl
only_if_is test (Some v) = refl

-- ---- whether a row, a column or a place has a value is told by the first key that may be one of it

module _ {V : Type 0} where
  pub first-of_row : (r : ℕ) (es : List (Position × V)) → IsAscending by_place es → has_key (in_row r) es ≡ passes (in_row r) (option_map (λ e. e.0) (next_from by_place (at r 0) es))
  first-of_row r = has_key-first place-laws (in_row r) (at r 0) (λ a h. grind (arith, nat_tests, h)) (λ a b n o h. grind (arith, nat_tests, n, o, h))

  pub first-of_column : (c : ℕ) (es : List (ColumnPlace × V)) → IsAscending by_columns es → has_key (in_column c) es ≡ passes (in_column c) (option_map (λ e. e.0) (next_from by_columns (column_place (at 0 c)) es))
  first-of_column c = has_key-first columns-laws (in_column c) (column_place (at 0 c)) (λ a h. grind (arith, nat_tests, h)) (λ a b n o h. grind (arith, nat_tests, n, o, h))

  pub first-of_place : (p : Position) (es : List (GlyphPlace × V)) → IsAscending by_glyph es → has_key (of_place p) es ≡ passes (of_place p) (option_map (λ e. e.0) (next_from by_glyph (glyph_at p 0) es))
  first-of_place p = has_key-first glyph-laws (of_place p) (glyph_at p 0) (λ a h. grind (arith, nat_tests, h)) (λ a b n o h. grind (arith, nat_tests, n, o, h))

-- ---- which columns crossings have after an edit

some-or : {V : Type 0} (b : Bool) (v : V) (o : Option V) → is_some (if b then Some v else o) ≡ (b || is_some o)
some-or b v o = elim (cases_Bool b) [ inl y ↦ rw y refl | inr n ↦ rw n refl ]

module _ {G : Type 0} where
  -- the index has the new crossing's column too
  pub HasColumns-with_place : (p : Position) (u : Unit {0}) (v : G) (columns : List (ℕ × Unit {0})) (crossings : List (Position × G)) → HasColumns columns crossings → HasColumns (with_place by_number p.col u columns) (with_place by_place p v crossings)
  HasColumns-with_place p u v columns crossings has q =
      ap is_some (value_at-with_place number-laws q p.col u columns)
      ∙ some-or (p.col == q) u (value_at by_number q columns)
      ∙ ap (λ b. (p.col == q) || b) (has q)
      ∙ sym (any-with_place place-laws (λ a. a.col == q) p v crossings)

-- ---- what taking changes back does with the latest one

module _ {K V : Type 0} (order : Order K) (k : K) (v : Option V) (es : List (K × V)) where
  -- the latest change, which is noted last, goes first
  pub taken_back-last : (held : List (K × Option V)) → taken_back order (held ++ (k, v) ∷ []) es ≡ taken_back order held (exchanged order k v es)
  taken_back-last [] = refl
  taken_back-last (h ∷ held) = ap (λ xs. exchanged order h.0 h.1 xs) (taken_back-last held)

  -- a change whose key is there for its old value may be noted
  pub CanTakeBack-more : (held : List (K × Option V)) → (IsSome v → IsSome (value_at order k es)) → CanTakeBack order held (exchanged order k v es) → CanTakeBack order (held ++ (k, v) ∷ []) es
  CanTakeBack-more [] is can = (is, tt)
  CanTakeBack-more (h ∷ held) is can = (λ s. subst (λ xs. IsSome (value_at order h.0 xs)) (sym (taken_back-last held)) (can.0 s), CanTakeBack-more held is can.1)

  -- and the other way round
  pub CanTakeBack-last : (held : List (K × Option V)) → CanTakeBack order (held ++ (k, v) ∷ []) es → (IsSome v → IsSome (value_at order k es)) × CanTakeBack order held (exchanged order k v es)
  CanTakeBack-last [] can = (can.0, tt)
  CanTakeBack-last (h ∷ held) can =
      let more = CanTakeBack-last held can.1 in
      (more.0, ((λ s. subst (λ xs. IsSome (value_at order h.0 xs)) (taken_back-last held) (can.0 s)), more.1))

-- the latest note, where it is taken from the others
module _ {K V : Type 0} (order : Order K) (note : K × Option V) (es : List (K × V)) (held rest : List (K × Option V)) (notes : held ≡ rest ++ note ∷ []) where
  pub taken_back-rest : taken_back order rest (exchanged order note.0 note.1 es) ≡ taken_back order held es
  taken_back-rest = sym (taken_back-last order note.0 note.1 es rest) ∙ ap (λ xs. taken_back order xs es) (sym notes)

  pub CanTakeBack-rest : CanTakeBack order held es → (IsSome note.1 → IsSome (value_at order note.0 es)) × CanTakeBack order rest (exchanged order note.0 note.1 es)
  CanTakeBack-rest can = CanTakeBack-last order note.0 note.1 es rest (subst (λ xs. CanTakeBack order xs es) notes can)

-- a key that was given a value is there
pub given_is_there : {K V : Type 0} {order : Order K} → IsOrder order → (k : K) (v : V) (es : List (K × V)) → value_at order k (exchanged order k (Some v) es) ≡ Some v
given_is_there is k v es = value_at-with_place is k k v es ∙ rw (is.same_itself k) refl
