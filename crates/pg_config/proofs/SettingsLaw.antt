-- What a getter returns after a setter, and where a setting is for all places or for none.
use Rattle.std.proofs.Common.{◌≡◌, ℕ, true, false, is_some, ◌&&◌, ◌||◌, ◌==◌, List, [], ◌∷◌, length, Option, Some, None, refl, arith, suc, max, ◌<◌, ◌≤◌, nat_lt, ap, ◌∙◌, Result, Ok, Err, OnOk, OnErr, if◌then◌else◌, inl, inr, IfSome}
use Rattle.std.proofs.lemmas.Bool.{and_parts, cases_Bool}
use Rattle.std.proofs.lemmas.Bool.Decides.{nat_tests}
use Rattle.pg_layout.specs.declared.position.Position.{Position}
use Rattle.pg_layout.specs.Keys.{Order, by_number, by_place}
use Rattle.pg_layout.specs.Places.{value_at, same, before, with_place}
use Rattle.pg_config.specs.Inside.{first_of, with_base}
use Rattle.pg_config.specs.Settings.{Settings, no_settings, has_some, is_for_all, is_by_column, is_set, setting_of, number_above, next_number, latest, with_setting}
use Rattle.pg_layout.proofs.KeyedPlaces.{number-laws, place-laws, value_at-with_place}
use Rattle.pg_layout.specs.declared.position.Entity.{Entity}
use Rattle.pg_layout.specs.declared.position.Entity.TheVariants.{Global, Row, Column, Cell}
use Rattle.pg_layout.specs.Position.{at, holds}

-- ---- where nothing was set but for all places, each place has that setting; where nothing was set at all, none has one

none_at : {K V : Type 0} (order : Order K) (k : K) (es : List (K × V)) → (length es == 0) ≡ true → value_at order k es ≡ None
none_at order k [] none = refl
none_at order k (e ∷ es) none = absurd (grind (arith, nat_tests, none))

pub for_all-base : {V : Type 0} (s : Settings V) (p : Position) → is_for_all s ≡ true → s.base ≡ setting_of s p
unfolding setting_of
for_all-base s p h =
    let all = and_parts ((length s.cells == 0) && (length s.rows == 0)) (length s.columns == 0) h in
    let two = and_parts (length s.cells == 0) (length s.rows == 0) all.0 in
    rw (none_at by_place p s.cells two.0, none_at by_number p.row s.rows two.1, none_at by_number p.col s.columns all.1) refl

-- Where nothing was set for a row or a cell, a place has the setting of the first one of its column.
pub by_column-same : {V : Type 0} (s : Settings V) (p : Position) → is_by_column s ≡ true → setting_of s (at 0 p.col) ≡ setting_of s p
unfolding setting_of
by_column-same s p h =
    let two = and_parts (length s.cells == 0) (length s.rows == 0) h in
    rw (none_at by_place p s.cells two.0, none_at by_number p.row s.rows two.1, none_at by_place (at 0 p.col) s.cells two.0, none_at by_number 0 s.rows two.1) refl

-- Where nothing was set, no place has a setting.
unset-parts : {V : Type 0} (base : Option V) (rows columns : List (ℕ × (ℕ × V))) (cells : List (Position × (ℕ × V))) (p : Position) → ((is_some base || has_some cells) || (has_some rows || has_some columns)) ≡ false → setting_of (record { base = base; rows = rows; columns = columns; cells = cells }) p ≡ None
unfolding setting_of
unset-parts None [] [] [] p unset = refl
unset-parts (Some v) rows columns cells p unset = absurd (grind (arith, unset))
unset-parts None rows columns (c ∷ cells) p unset = absurd (grind (arith, unset))
unset-parts None (r ∷ rows) columns [] p unset = absurd (grind (arith, unset))
unset-parts None [] (c ∷ columns) [] p unset = absurd (grind (arith, unset))

pub unset-none : {V : Type 0} (s : Settings V) (p : Position) → is_set s ≡ false → setting_of s p ≡ None
unfolding is_set
unset-none s p unset = unset-parts s.base s.rows s.columns s.cells p unset

-- ---- what a getter answers after a setter

module _ {K V : Type 0} (order : Order K) where
  -- a number from that above all entries on is above that of each
  above : (k : K) (n : ℕ) (es : List (K × (ℕ × V))) → number_above es ≤ n → IfSome (value_at order k es) (λ e. e.0 < n)
  above k n [] h = tt
  above k n (e ∷ es) h =
      elim (cases_Bool (same order e.0 k)) [ inl y ↦ rw y (omega (arith, h)) | inr o ↦ rw o (above k n es (omega (arith, h))) ]

  -- the number after a new entry of such a number
  number_above-with_place : (k : K) (n : ℕ) (v : V) (es : List (K × (ℕ × V))) → number_above es ≤ n → number_above (with_place order k (n, v) es) ≡ suc n
  number_above-with_place k n v [] h = omega (arith, h)
  number_above-with_place k n v (e ∷ es) h =
      elim (cases_Bool (before order e.0 k)) [
        | inl y ↦ let more = number_above-with_place k n v es (omega (arith, h)) in rw y (omega (arith, h, more))
        | inr o ↦ elim (cases_Bool (same order e.0 k)) [ inl s ↦ rw (o, s) (omega (arith, h)) | inr m ↦ rw (o, m) (omega (arith, h)) ]
      ]

  -- whether a setter of one kind is done or refused, the number kept is the least above all
  module _ {U E : Type 0} (k : K) (v : V) (others : ℕ) (old new : List (K × (ℕ × V))) {n next : ℕ} (was : n ≡ max (number_above old) others) where
    pub number_kept : (r : Result U E) → OnOk r (new ≡ with_place order k (n, v) old) → OnOk r (next ≡ suc n) → OnErr r (new ≡ old) → OnErr r (next ≡ n) → next ≡ max (number_above new) others
    number_kept (Ok u) places moved same_places same_next =
        let above = ap number_above places ∙ number_above-with_place k n v old (omega (arith, was)) in omega (arith, above, was, moved)
    number_kept (Err e) places moved same_places same_next = let above = ap number_above same_places in omega (arith, above, was, same_next)

module _ {V : Type 0} where
  first_wins : (n : ℕ) (v : V) (o : Option (ℕ × V)) → IfSome o (λ e. e.0 < n) → latest (Some (n, v)) o ≡ Some (n, v)
  first_wins n v None h = refl
  first_wins n v (Some b) h = let no : nat_lt n b.0 ≡ false = grind (arith, nat_tests, h) in rw no refl

  second_wins : (n : ℕ) (v : V) (o : Option (ℕ × V)) → IfSome o (λ e. e.0 < n) → latest o (Some (n, v)) ≡ Some (n, v)
  second_wins n v None h = refl
  second_wins n v (Some a) h = let yes : nat_lt a.0 n ≡ true = grind (arith, nat_tests, h) in rw yes refl

  latest_below : (n : ℕ) (a b : Option (ℕ × V)) → IfSome a (λ e. e.0 < n) → IfSome b (λ e. e.0 < n) → IfSome (latest a b) (λ e. e.0 < n)
  latest_below n None b h k = k
  latest_below n (Some a) None h k = h
  latest_below n (Some a) (Some b) h k = elim (cases_Bool (nat_lt a.0 b.0)) [ inl y ↦ rw y k | inr o ↦ rw o h ]

  cell : (p : Position) (s : Settings V) → IfSome (value_at by_place p s.cells) (λ e. e.0 < next_number s)
  cell p s = above by_place p (next_number s) s.cells (omega arith)

  row : (p : Position) (s : Settings V) → IfSome (value_at by_number p.row s.rows) (λ e. e.0 < next_number s)
  row p s = above by_number p.row (next_number s) s.rows (omega arith)

  column : (p : Position) (s : Settings V) → IfSome (value_at by_number p.col s.columns) (λ e. e.0 < next_number s)
  column p s = above by_number p.col (next_number s) s.columns (omega arith)

  -- the new value where the entity holds the place, and the old answer elsewhere
  pub setting_of-with_setting : (e : Entity) (v : V) (s : Settings V) (p : Position) → setting_of (with_setting e v s) p ≡ (if holds e p then Some v else setting_of s p)
  unfolding setting_of with_setting
  setting_of-with_setting Global v s p = refl
  setting_of-with_setting (Row r) v s p =
      rw (value_at-with_place number-laws p.row r (next_number s, v) s.rows)
      (elim (cases_Bool (p.row == r)) [
        | inl y ↦
            let there : same by_number r p.row ≡ true = grind (arith, nat_tests, y) in
            rw (there, y, first_wins (next_number s) v (value_at by_number p.col s.columns) (column p s), second_wins (next_number s) v (value_at by_place p s.cells) (cell p s)) refl
        | inr n ↦ let away : same by_number r p.row ≡ false = grind (arith, nat_tests, n) in rw (away, n) refl
      ])
  setting_of-with_setting (Column c) v s p =
      rw (value_at-with_place number-laws p.col c (next_number s, v) s.columns)
      (elim (cases_Bool (p.col == c)) [
        | inl y ↦
            let there : same by_number c p.col ≡ true = grind (arith, nat_tests, y) in
            rw (there, y, second_wins (next_number s) v (value_at by_number p.row s.rows) (row p s), second_wins (next_number s) v (value_at by_place p s.cells) (cell p s)) refl
        | inr n ↦ let away : same by_number c p.col ≡ false = grind (arith, nat_tests, n) in rw (away, n) refl
      ])
  setting_of-with_setting (Cell r c) v s p =
      rw (value_at-with_place place-laws p (at r c) (next_number s, v) s.cells)
      (elim (cases_Bool ((p.row == r) && (p.col == c))) [
        | inl y ↦
            let there : same by_place (at r c) p ≡ true = grind (arith, nat_tests, y) in
            rw (there, y, first_wins (next_number s) v (latest (value_at by_number p.row s.rows) (value_at by_number p.col s.columns)) (latest_below (next_number s) (value_at by_number p.row s.rows) (value_at by_number p.col s.columns) (row p s) (column p s))) refl
        | inr n ↦ let away : same by_place (at r c) p ≡ false = grind (arith, nat_tests, n) in rw (away, n) refl
      ])

-- ---- settings of rows, columns and cells that are kept apart from that of all places

pub none-first : {V : Type 0} (base : Option V) (items : List (Settings V)) (p : Position) → length items < 1 → base ≡ setting_of (with_base base (first_of items)) p
none-first base [] p none = for_all-base (with_base base no_settings) p refl
none-first base (s ∷ items) p none = absurd (omega (arith, none))
