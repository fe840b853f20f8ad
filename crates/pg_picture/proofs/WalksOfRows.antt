-- Walks along a row from rectangle to rectangle, and what a column adds to a line.
use Rattle.std.proofs.Common.{◌≡◌, ℕ, zero, suc, ◌+◌, ◌<◌, ◌≤◌, Bool, true, false, not, ◌||◌, ◌==◌, nat_lt, List, [], ◌∷◌, ◌++◌, flat_map, find, refl, sym, ap, ap₂, ◌∙◌, arith, subst, Option, Some, None, is_some, unwrap_or, inl, inr, append-nil, zero-add, ◌&&◌}
use Rattle.std.specs.List.{range_with_len}
use Rattle.std.proofs.lemmas.Bool.{cases_Bool, false≢true, and_parts}
use Rattle.std.proofs.lemmas.Bool.Decides.{nat_tests}
use Rattle.std.proofs.lemmas.List.Concat.{flat_map-append}
use Rattle.pg_layout.specs.declared.position.Position.{Position}
use Rattle.pg_layout.specs.Position.{at}
use Rattle.pg_config.specs.Config.{get_horizontal}
use Rattle.pg_config.specs.Spans.{Span, corner, in_span, owner, is_left, begins_above, left_span, span_above}
use Rattle.pg_picture.specs.Marks.{sep, line}
use Rattle.pg_picture.specs.Pieces.{Item, block}
use Rattle.pg_picture.specs.Table.{Table, block_at, row_part, vertical, is_inside, is_covered, crossing, crossing_at, column_items, horizontal_items, separator_part}
use Rattle.pg_picture.specs.Inside.{columns_or_one}
use Rattle.pg_picture.proofs.Ranges.{range-add}
use Rattle.pg_picture.proofs.OwnersOfPlaces.{InOrder, step, step_positive, step_inside, first_left, next_left, not_inside, inner, owner_found, owner_alone, option_cases, left_sound, room_among, Among, find_cases, owner_is}

-- ---- walks along a row, from rectangle to rectangle: what a column adds to a line of the row, or to the separator above it, is all at the left
-- columns of rectangles

-- ---- parts that are silent

silent : {A : Type 0} (f : ℕ → List A) (a k : ℕ) → ((y : ℕ) → a ≤ y → y < a + k → f y ≡ []) → flat_map f (range_with_len a k) ≡ []
silent f a zero h = refl
silent f a (suc k) h = rw (h a (omega arith) (omega arith)) (silent f (a + 1) k (λ y l m. h y (omega (arith, l)) (omega (arith, m))))

first_part : {A : Type 0} (f : ℕ → List A) (x w : ℕ) → 0 < w → ((y : ℕ) → x < y → y < x + w → f y ≡ []) → flat_map f (range_with_len x w) ≡ f x
first_part f x zero h quiet = absurd (omega (arith, h))
first_part f x (suc w) h quiet = rw (silent f (x + 1) w (λ y l m. quiet y (omega (arith, l)) (omega (arith, m)))) (append-nil (f x))

-- what x + w columns add, of which those after x add nothing
pub walk_step : {A : Type 0} (f : ℕ → List A) (x w : ℕ) → 0 < w → ((y : ℕ) → x < y → y < x + w → f y ≡ []) → flat_map f (range_with_len 0 (x + w)) ≡ flat_map f (range_with_len 0 x) ++ f x
walk_step f x w h quiet =
    ap (λ l. flat_map f l) (range-add 0 x w) ∙ flat_map-append f (range_with_len 0 x) (range_with_len (0 + x) w)
    ∙ rw zero-add (ap (λ l. flat_map f (range_with_len 0 x) ++ l) (first_part f x w h quiet))

-- ---- behind the last column

module _ (t : Table) where
  inside_end : (r : ℕ) → is_inside t r t.columns ≡ false
  unfolding is_inside
  inside_end r = let e : nat_lt t.columns t.columns ≡ false = grind (arith, nat_tests) in grind (arith, nat_tests, e)

  -- stands its vertical
  pub row_part_end : (r i : ℕ) → row_part t r i t.columns ≡ vertical t r i t.columns
  unfolding row_part
  row_part_end r i =
      let e : nat_lt t.columns t.columns ≡ false = grind (arith, nat_tests) in
      rw (inside_end r, e) (append-nil (vertical t r i t.columns))

  covered_end : (r : ℕ) → is_covered t r t.columns ≡ false
  unfolding is_covered
  covered_end r = let e : nat_lt t.columns t.columns ≡ false = grind (arith, nat_tests) in grind (arith, nat_tests, e)

  -- and its crossing
  pub separator_part_end : (r : ℕ) → separator_part t r t.columns ≡ crossing_at t.config t.rows t.columns (at r t.columns)
  unfolding separator_part crossing column_items
  separator_part_end r =
      let e : nat_lt t.columns t.columns ≡ false = grind (arith, nat_tests) in
      rw (inside_end r, covered_end r, e) (append-nil (crossing_at t.config t.rows t.columns (at r t.columns)))

-- ---- a line of a row

module _ (t : Table) (order : InOrder t.config.spans t.rows t.columns) where
  abbrev spans : List Span
  spans = t.config.spans

  -- how many columns the rectangle takes that begins at x
  abbrev pub width_at : ℕ → ℕ → ℕ
  width_at r x = step spans t.rows t.columns order r x

  inside_left : (r x : ℕ) → is_left spans r x ≡ true → is_inside t r x ≡ false
  unfolding is_inside
  inside_left r x left =
      elim (cases_Bool (nat_lt 0 x)) [
        | inl y ↦ let some : 0 < x = grind (arith, nat_tests, y) in rw (not_inside spans t.rows t.columns order r x left some) (grind (arith, nat_tests))
        | inr n ↦ rw n refl
      ]

  inside_inner : (r x y : ℕ) → is_left spans r x ≡ true → x < t.columns → x < y → y < x + width_at r x → is_inside t r y ≡ true
  unfolding is_inside
  inside_inner r x y left here h k =
      let end = step_inside spans t.rows t.columns order r x here in
      let a : nat_lt 0 y ≡ true = grind (arith, nat_tests, h) in
      let b : nat_lt y t.columns ≡ true = grind (arith, nat_tests, end, k) in
      rw (a, b, (inner spans t.rows t.columns order r x y left h k).one_owner) refl

  -- inside a rectangle nothing is added
  pub row_part_inner : (r i x y : ℕ) → is_left spans r x ≡ true → x < t.columns → x < y → y < x + width_at r x → row_part t r i y ≡ []
  unfolding row_part
  row_part_inner r i x y left here h k =
      let end = step_inside spans t.rows t.columns order r x here in
      let b : nat_lt y t.columns ≡ true = grind (arith, nat_tests, end, k) in
      rw (inside_inner r x y left here h k, b, (inner spans t.rows t.columns order r x y left h k).not_left) refl

  -- at its left column its vertical and the line of its owner's block
  pub row_part_left : (r i x : ℕ) → is_left spans r x ≡ true → x < t.columns → row_part t r i x ≡ vertical t r i x ++ block_at t (owner spans r x) (line r i)
  unfolding row_part
  row_part_left r i x left here =
      let b : nat_lt x t.columns ≡ true = grind (arith, nat_tests, here) in
      rw (inside_left r x left, b, left) refl

  -- ---- a separator

  abbrev pub is_start : ℕ → ℕ → Bool
  is_start r x = not (begins_above spans r x) || is_left spans r x

  abbrev pub width_above : ℕ → ℕ → ℕ
  width_above r x = columns_or_one (span_above spans r x)

  below_all : (r x : ℕ) → begins_above spans r x ≡ true → r < t.rows
  unfolding begins_above owner
  below_all r x above =
      elim (find_cases (in_span r x) spans) [
        | inl none ↦ let no : nat_lt r r ≡ true = (rw none at above) in grind (arith, nat_tests, no)
        | inr f ↦ let room = room_among spans t.rows t.columns order f.0 f.3 in grind (arith, nat_tests, f.2, room.rows_end)
      ]

  covered-is : (r x : ℕ) → x < t.columns → is_covered t r x ≡ begins_above spans r x
  unfolding is_covered
  covered-is r x here =
      let b : nat_lt x t.columns ≡ true = grind (arith, nat_tests, here) in
      elim (cases_Bool (begins_above spans r x)) [
        | inl y ↦ let below = below_all r x y in let a : nat_lt r t.rows ≡ true = grind (arith, nat_tests, below) in rw (a, b, y) refl
        | inr n ↦ rw n (grind (arith, nat_tests))
      ]

  -- what the search finds at a start
  pub record Above (r x : ℕ) (s : Span) : Type 0 where
    pub found : left_span spans r x ≡ Some s
    pub above : begins_above spans r x ≡ true
    pub left : is_left spans r x ≡ true

  start_left : (r x : ℕ) → is_start r x ≡ true → begins_above spans r x ≡ true → is_left spans r x ≡ true
  start_left r x start above = elim (cases_Bool (is_left spans r x)) [ inl y ↦ y | inr n ↦ absurd (false≢true (rw (n, above) at start)) ]

  left_found_above : (r x : ℕ) (s : Span) → left_span spans r x ≡ Some s → (begins_above spans r x ≡ nat_lt s.0.row r) × (is_left spans r x ≡ true)
  unfolding begins_above is_left
  left_found_above r x s e =
      let own = owner_found spans t.rows t.columns order r x s e in
      let f = left_sound spans t.rows t.columns order r x s e in
      (ap (λ (o : Position). nat_lt o.row r) own, rw own (grind (arith, nat_tests, f.left)))

  none_above : (r x : ℕ) → is_start r x ≡ true → left_span spans r x ≡ None → begins_above spans r x ≡ false
  unfolding begins_above
  none_above r x start none =
      elim (cases_Bool (begins_above spans r x)) [
        | inr n ↦ n
        | inl y ↦ let own = owner_alone spans t.rows t.columns order r x (start_left r x start y) none in rw own (grind (arith, nat_tests))
      ]

  pub above_none : (r x : ℕ) → is_start r x ≡ true → span_above spans r x ≡ None → begins_above spans r x ≡ false
  above_none r x start none =
      elim (option_cases (left_span spans r x)) [
        | inl nothing ↦ none_above r x start nothing
        | inr some ↦ elim (cases_Bool (nat_lt some.0.0.row r)) [
          | inr n ↦ (left_found_above r x some.0 some.1).0 ∙ n
          | inl y ↦ absurd (false≢true (sym (ap (λ (o : Option Span). is_some o) (rw (some.1, y) at none))))
        ]
      ]

  pub above_some : (r x : ℕ) (s : Span) → span_above spans r x ≡ Some s → Above r x s
  above_some r x s e =
      elim (option_cases (left_span spans r x)) [
        | inl nothing ↦ absurd (false≢true (ap (λ (o : Option Span). is_some o) (rw nothing at e)))
        | inr some ↦ elim (cases_Bool (nat_lt some.0.0.row r)) [
          | inr n ↦ absurd (false≢true (ap (λ (o : Option Span). is_some o) (rw (some.1, n) at e)))
          | inl y ↦
              let same : Some some.0 ≡ Some s = (rw (some.1, y) at e) in
              let both = left_found_above r x some.0 some.1 in
              record { found = some.1 ∙ same; above = both.0 ∙ y; left = both.1 }
        ]
      ]

  start_where_none : (r x : ℕ) → begins_above spans r x ≡ false → is_start r x ≡ true
  start_where_none r x none = rw none refl

  start_where_left : (r x : ℕ) → is_left spans r x ≡ true → is_start r x ≡ true
  start_where_left r x left = rw left (grind (arith, nat_tests))

  not_above : (r x : ℕ) (s : Span) → Among spans s → in_span r x s ≡ true → nat_lt s.0.row r ≡ false → begins_above spans r x ≡ false
  unfolding begins_above
  not_above r x s m h below = ap (λ (o : Position). nat_lt o.row r) (owner_is spans t.rows t.columns order r x s m h) ∙ below

  above_of : (r x : ℕ) (s : Span) → Among spans s → in_span r x s ≡ true → begins_above spans r x ≡ false → nat_lt s.0.row r ≡ false
  unfolding begins_above
  above_of r x s m h other = sym (ap (λ (o : Position). nat_lt o.row r) (owner_is spans t.rows t.columns order r x s m h)) ∙ other

  alone_not_above : (r x : ℕ) → find (in_span r x) spans ≡ None → begins_above spans r x ≡ false
  unfolding begins_above owner
  alone_not_above r x none = rw none (grind (arith, nat_tests))

  left_at : (r x : ℕ) (s : Span) → Among spans s → in_span r x s ≡ true → (s.0.col == x) ≡ true → is_left spans r x ≡ true
  unfolding is_left
  left_at r x s m h e = ap (λ (o : Position). o.col == x) (owner_is spans t.rows t.columns order r x s m h) ∙ e

  -- after a place of no rectangle from above, the next column is a start
  after_other : (r x : ℕ) → begins_above spans r x ≡ false → is_start r (x + 1) ≡ true
  after_other r x other =
      elim (find_cases (in_span r (x + 1)) spans) [
        | inl none ↦ start_where_none r (x + 1) (alone_not_above r (x + 1) none)
        | inr f ↦ elim (cases_Bool (f.0.0.col == (x + 1))) [
          | inl y ↦ start_where_left r (x + 1) (left_at r (x + 1) f.0 f.3 f.2 y)
          | inr n ↦
              let there : in_span r x f.0 ≡ true = grind (arith, nat_tests, f.2, n) in
              start_where_none r (x + 1) (not_above r (x + 1) f.0 f.3 f.2 (above_of r x f.0 f.3 there other))
        ]
      ]

  pub first_start : (r : ℕ) → is_start r 0 ≡ true
  first_start r = start_where_left r 0 (first_left spans t.rows t.columns order r)

  pub next_start : (r x : ℕ) → is_start r x ≡ true → is_start r (x + width_above r x) ≡ true
  next_start r x start =
      elim (option_cases (span_above spans r x)) [
        | inl none ↦ let next = after_other r x (above_none r x start none) in rw none next
        | inr some ↦
            let a = above_some r x some.0 some.1 in
            let next = next_left spans t.rows t.columns order r x a.left in
            let same : width_above r x ≡ width_at r x = rw (some.1, a.found) refl in
            start_where_left r (x + width_above r x) (subst (λ w. is_left spans r (x + w) ≡ true) (sym same) next)
      ]

  pub width_above-positive : (r x : ℕ) → 0 < width_above r x
  width_above-positive r x =
      elim (option_cases (span_above spans r x)) [
        | inl none ↦ rw none (omega arith)
        | inr some ↦
            let a = above_some r x some.0 some.1 in
            let positive = step_positive spans t.rows t.columns order r x in
            let same : width_above r x ≡ width_at r x = rw (some.1, a.found) refl in
            omega (arith, positive, same)
      ]

  pub width_above-inside : (r x : ℕ) → x < t.columns → x + width_above r x ≤ t.columns
  width_above-inside r x here =
      elim (option_cases (span_above spans r x)) [
        | inl none ↦ rw none (omega (arith, here))
        | inr some ↦
            let a = above_some r x some.0 some.1 in
            let end = step_inside spans t.rows t.columns order r x here in
            let same : width_above r x ≡ width_at r x = rw (some.1, a.found) refl in
            omega (arith, end, same)
      ]

  crossing_inner : (r y : ℕ) → is_inside t r y ≡ true → is_covered t r y ≡ true → crossing t r y ≡ []
  unfolding crossing
  crossing_inner r y a b = rw (a, b) refl

  column_inner : (r y : ℕ) → is_covered t r y ≡ true → is_left spans r y ≡ false → column_items t r y ≡ []
  unfolding column_items
  column_inner r y a b = rw (a, b) refl

  -- inside a rectangle from above nothing is added
  pub separator_part_inner : (r x y : ℕ) → is_start r x ≡ true → x < t.columns → x < y → y < x + width_above r x → separator_part t r y ≡ []
  unfolding separator_part
  separator_part_inner r x y start here h k =
      elim (option_cases (span_above spans r x)) [
        | inl none ↦ let near : y < x + 1 = (rw none at k) in absurd (omega (arith, h, near))
        | inr some ↦
            let a = above_some r x some.0 some.1 in
            let same : width_above r x ≡ width_at r x = rw (some.1, a.found) refl in
            let near : y < x + width_at r x = omega (arith, k, same) in
            let end = step_inside spans t.rows t.columns order r x here in
            let i = inner spans t.rows t.columns order r x y a.left h near in
            let covered : is_covered t r y ≡ true = covered-is r y (omega (arith, end, near)) ∙ i.above ∙ a.above in
            ap₂ (λ (p q : List Item). p ++ q) (crossing_inner r y (inside_inner r x y a.left here h near) covered) (column_inner r y covered i.not_left)
      ]

  crossing_start : (r x : ℕ) → is_start r x ≡ true → x < t.columns → crossing t r x ≡ crossing_at t.config t.rows t.columns (at r x)
  unfolding crossing
  crossing_start r x start here =
      elim (cases_Bool (begins_above spans r x)) [
        | inl y ↦ rw (inside_left r x (start_left r x start y)) refl
        | inr n ↦ rw (covered-is r x here ∙ n) (grind (arith, nat_tests))
      ]

  column_block : (r x : ℕ) → is_covered t r x ≡ true → is_left spans r x ≡ true → column_items t r x ≡ block (block_at t (owner spans r x) (sep r)) ∷ []
  unfolding column_items
  column_block r x a b = rw (a, b) refl

  column_border : (r x : ℕ) → is_covered t r x ≡ false → x < t.columns → column_items t r x ≡ horizontal_items t r x (get_horizontal t.config (at r x) t.rows)
  unfolding column_items
  column_border r x a h = let e : nat_lt x t.columns ≡ true = grind (arith, nat_tests, h) in rw (a, e) refl

  -- at a start its crossing, and the rectangle's line or the horizontal
  pub separator_part_block : (r x : ℕ) (s : Span) → is_start r x ≡ true → x < t.columns → span_above spans r x ≡ Some s
      → separator_part t r x ≡ crossing_at t.config t.rows t.columns (at r x) ++ block (block_at t (corner s) (sep r)) ∷ []
  unfolding separator_part
  separator_part_block r x s start here e =
      let a = above_some r x s e in
      ap₂ (λ (p q : List Item). p ++ q) (crossing_start r x start here)
      (column_block r x (covered-is r x here ∙ a.above) a.left ∙ ap (λ p. block (block_at t p (sep r)) ∷ []) (owner_found spans t.rows t.columns order r x s a.found))

  pub separator_part_border : (r x : ℕ) → is_start r x ≡ true → x < t.columns → span_above spans r x ≡ None
      → separator_part t r x ≡ crossing_at t.config t.rows t.columns (at r x) ++ horizontal_items t r x (get_horizontal t.config (at r x) t.rows)
  unfolding separator_part
  separator_part_border r x start here none =
      ap₂ (λ (p q : List Item). p ++ q) (crossing_start r x start here) (column_border r x (covered-is r x here ∙ above_none r x start none) here)

-- what begins above a row has its corner there
pub span_above-below : (spans : List Span) (r x : ℕ) (s : Span) → span_above spans r x ≡ Some s → s.0.row < r
span_above-below spans r x s e =
    elim (option_cases (left_span spans r x)) [
      | inl nothing ↦ absurd (false≢true (ap (λ (o : Option Span). is_some o) (rw nothing at e)))
      | inr some ↦ elim (cases_Bool (nat_lt some.0.0.row r)) [
        | inr n ↦ absurd (false≢true (ap (λ (o : Option Span). is_some o) (rw (some.1, n) at e)))
        | inl y ↦
            let its : Some some.0 ≡ Some s = (rw (some.1, y) at e) in
            let same : some.0 ≡ s = ap (λ (o : Option Span). unwrap_or o s) its in
            subst (λ (u : Span). u.0.row < r) same (grind (arith, nat_tests, y))
      ]
    ]

-- ---- what a column adds to a line, by whether it begins its owner's rectangle and whether that comes from above

module _ (t : Table) where
  pub left-there : (r k : ℕ) → (owner t.config.spans r k).col ≡ k → is_left t.config.spans r k ≡ true
  unfolding is_left
  left-there r k h = grind (arith, nat_tests, h)

  pub row-begins : (r i k : ℕ) → k < t.columns → is_inside t r k ≡ false → is_left t.config.spans r k ≡ true → row_part t r i k ≡ vertical t r i k ++ block_at t (owner t.config.spans r k) (line r i)
  unfolding row_part
  row-begins r i k h n left = let within : nat_lt k t.columns ≡ true = grind (arith, nat_tests, h) in rw (n, within, left) refl

  pub row-inside : (r i k : ℕ) → k < t.columns → is_inside t r k ≡ true → is_left t.config.spans r k ≡ false → row_part t r i k ≡ []
  unfolding row_part
  row-inside r i k h y left = let within : nat_lt k t.columns ≡ true = grind (arith, nat_tests, h) in rw (y, within, left) refl

  pub covered-row : (r k : ℕ) → is_covered t r k ≡ true → r < t.rows
  unfolding is_covered
  covered-row r k h = let one = (and_parts (nat_lt r t.rows && nat_lt k t.columns) (begins_above t.config.spans r k) h).0 in grind (arith, nat_tests, one)

  pub no-crossing : (r k : ℕ) → is_inside t r k ≡ true → is_covered t r k ≡ true → crossing t r k ≡ []
  unfolding crossing
  no-crossing r k y covered = rw (y, covered) refl

  pub crossing-begins : (r k : ℕ) → is_inside t r k ≡ false → crossing t r k ≡ crossing_at t.config t.rows t.columns (at r k)
  unfolding crossing
  crossing-begins r k n = rw n refl

  pub crossing-open : (r k : ℕ) → is_covered t r k ≡ false → crossing t r k ≡ crossing_at t.config t.rows t.columns (at r k)
  unfolding crossing
  crossing-open r k n = elim (cases_Bool (is_inside t r k)) [ inl y ↦ rw (y, n) refl | inr m ↦ rw m refl ]

  pub column-inside : (r k : ℕ) → is_covered t r k ≡ true → is_left t.config.spans r k ≡ false → column_items t r k ≡ []
  unfolding column_items
  column-inside r k covered n = rw (covered, n) refl

  pub column-begins : (r k : ℕ) → is_covered t r k ≡ true → is_left t.config.spans r k ≡ true → column_items t r k ≡ block (block_at t (owner t.config.spans r k) (sep r)) ∷ []
  unfolding column_items
  column-begins r k covered y = rw (covered, y) refl

  pub column-open : (r k : ℕ) → k < t.columns → is_covered t r k ≡ false → column_items t r k ≡ horizontal_items t r k (get_horizontal t.config (at r k) t.rows)
  unfolding column_items
  column-open r k h n = let within : nat_lt k t.columns ≡ true = grind (arith, nat_tests, h) in rw (n, within) refl
