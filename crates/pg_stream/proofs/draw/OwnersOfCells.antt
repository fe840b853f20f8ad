-- Open cells are the owners of their columns: how far they reach, and the lines that are drawn of them.
use Rattle.std.proofs.Common.{◌≡◌, ℕ, zero, suc, ◌+◌, ◌-◌, ◌<◌, ◌≤◌, Bool, true, false, ◌&&◌, ◌==◌, nat_lt, List, ◌++◌, flat_map, get_or, length, filter, Option, Some, None, refl, sym, ap, ap₂, ◌∙◌, arith, subst, inl, inr, length-append, eqb-true, not, map, slice_index_or, is_some, ◌⊎◌, [], append-nil, zero-add}
use Rattle.std.specs.List.{range_with_len}
use Rattle.std.proofs.lemmas.Bool.{cases_Bool, ltb-true, and_parts, false≢true}
use Rattle.std.proofs.lemmas.Bool.Decides.{nat_tests}
use Rattle.std.proofs.lemmas.List.Elements.{filter-append}
use Rattle.pg_layout.specs.declared.position.Position.{Position}
use Rattle.pg_layout.specs.Position.{at, is_at}
use Rattle.pg_config.specs.Config.{Config, get_horizontal}
use Rattle.pg_config.specs.Spans.{Span, rect_rows, owner, same_owner, rect_columns, is_left, begins_above}
use Rattle.pg_picture.specs.Marks.{Mark, marks_above, stands_within}
use Rattle.pg_picture.specs.Sizes.{height_of_rect}
use Rattle.pg_picture.specs.Table.{Table, is_inside, rect_width, vertical, is_covered, crossing_at, crossing, border_items, border_glyph}
use Rattle.pg_picture.proofs.MarksOfRectangles.{rows_from, marks_above-add}
use Rattle.pg_picture.proofs.Owners.{HasOwners}
use Rattle.pg_stream.specs.Open.{Slot, drawn_before, open_at_row, open_before}
use Rattle.pg_stream.specs.Placed.{Placed, slot_of, slots_of}
use Rattle.pg_stream.specs.Inside.{draw_cell, IsOwnerAbove, column_end, reach, open_part, open_line, cell_items, open_separator_part, open_separator}
use Rattle.pg_stream.proofs.draw.OpenLists.{slots-at}
use Rattle.pg_stream.proofs.draw.Steps.{open_value}
use Rattle.pg_stream.proofs.printer.WholePictures.{at_range}
use Rattle.pg_layout.specs.Text.{greatest, Text}
use Rattle.pg_layout.proofs.TextLines.{greatest-reaches}
use Rattle.pg_config.specs.Inside.{SameForRows}
use Rattle.pg_config.proofs.EqualLines.{rows_stay}
use Rattle.pg_picture.specs.Pieces.{Item}
use Rattle.pg_picture.proofs.Ranges.{range-more}
use Rattle.pg_stream.specs.Inside.{slot_part, slot_line, slot_column, slot_separator_part, slot_separator}
use Rattle.pg_stream.proofs.printer.RowsOfTables.{other}

-- ---- the open cells are the owners of their columns; so they tell where a line or a separator goes inside a rectangle

-- ---- what is open before row k

-- an open cell of column x: its owner begins above row k and is the cell
pub record IsOpenAt (t : Table) (k x : ℕ) (slot : Slot) : Type 0 where
  pub own : owner t.config.spans k x ≡ at slot.begun x
  pub above : slot.begun < k
  pub drawn : slot.drawn ≡ drawn_before t.config t.height k (at slot.begun x)

open-some : (t : Table) (k x : ℕ) (slot : Slot) → open_at_row t k x ≡ Some slot → IsOpenAt t k x slot
unfolding open_at_row
open-some t k x slot e =
    let p : Position = owner t.config.spans k x in
    elim (cases_Bool (nat_lt p.row k && (p.col == x))) [
      | inr f ↦ absurd (none_some slot (rw f at e))
      | inl f ↦
          let parts = and_parts (nat_lt p.row k) (p.col == x) f in
          let same : record { begun = p.row; text = t.text p; drawn = drawn_before t.config t.height k p } ≡ slot = some_some _ slot (rw f at e) in
          let row : p.row ≡ slot.begun = ap (λ (s : Slot). s.begun) same in
          let col : p.col ≡ x = eqb-true p.col x parts.1 in
          let above = ltb-true p.row k parts.0 in
          let own : p ≡ at slot.begun x = ap₂ (λ r c. at r c) row col in
          record { own = own; above = omega (arith, above, row); drawn = sym (ap (λ (s : Slot). s.drawn) same) ∙ ap (λ q. drawn_before t.config t.height k q) own }
    ]
  where
    none_some : (s : Slot) → None ≡ Some s → ⊥
    none_some s e = cc

    some_some : (a b : Slot) → Some a ≡ Some b → a ≡ b
    some_some a b e = cc

module _ (t : Table) (k : ℕ) (cells : List (Option Placed)) (slots : slots_of cells ≡ open_before t k) where
  slot-at : (x : ℕ) → x < t.columns → slot_of (get_or cells x None) ≡ open_at_row t k x
  unfolding open_before
  slot-at x h = sym (slots-at cells x) ∙ ap (λ l. get_or l x None) slots ∙ at_range (open_at_row t k) t.columns x None h

  pub open-at : (x : ℕ) (c : Placed) → x < t.columns → get_or cells x None ≡ Some c → IsOpenAt t k x (record { begun = c.begun; text = c.text; drawn = c.drawn })
  open-at x c h here = open-some t k x (record { begun = c.begun; text = c.text; drawn = c.drawn }) (sym (slot-at x h) ∙ ap slot_of here)

  pub owner-open : (x : ℕ) → x < t.columns → IsOwnerAbove t.config.spans k x (get_or cells x None)
  owner-open x h = record {
    none = λ none above left. absurd (some_none (sym (open_value t k x (owner t.config.spans k x) refl above left) ∙ sym (slot-at x h) ∙ ap slot_of none));
    some = λ c here. (open-at x c h here).own;
    above = λ c here. (open-at x c h here).above;
  }
    where
      some_none : {s : Slot} → Some s ≡ None → ⊥
      some_none e = cc

-- the same cells with more lines drawn
pub owner-drawn : (spans : List Span) (k x d : ℕ) (cell : Option Placed) → IsOwnerAbove spans k x cell → IsOwnerAbove spans k x (draw_cell d cell)
owner-drawn spans k x d None h = h
owner-drawn spans k x d (Some cell) h = record {
  none = λ e. absurd (no e);
  some = λ c e. h.some cell refl ∙ ap (λ (c : Placed). at c.begun x) (one c e);
  above = λ c e. let a = h.above cell refl in let b = ap (λ (c : Placed). c.begun) (one c e) in omega (arith, a, b);
}
  where
    no : Some (record cell { drawn = cell.drawn + d }) ≡ None → ⊥
    no e = cc

    one : (c : Placed) → Some (record cell { drawn = cell.drawn + d }) ≡ Some c → record cell { drawn = cell.drawn + d } ≡ c
    one c e = cc

-- ---- lines that an open cell has

-- as many at least as are drawn before a row that it has, or before the row below that
pub drawn-le : (config : Config) (height : ℕ → ℕ) (k : ℕ) (p : Position) → k ≤ p.row + rect_rows config.spans p → drawn_before config height k p ≤ height_of_rect config height p
unfolding drawn_before height_of_rect
drawn-le config height k p h =
    let b : ℕ = p.row + rect_rows config.spans p in
    let test : Mark → Bool = stands_within p.row b in
    let all : k + (b - k) ≡ b = omega (arith, h) in
    let e : marks_above config height b ≡ marks_above config height k ++ rows_from config height k (b - k) = subst (λ n. marks_above config height n ≡ marks_above config height k ++ rows_from config height k (b - k)) all (marks_above-add config height k (b - k)) in
    let f : length (filter test (marks_above config height b)) ≡ length (filter test (marks_above config height k) ++ filter test (rows_from config height k (b - k))) = ap (λ (l : List Mark). length (filter test l)) e ∙ ap (λ (l : List Mark). length l) (filter-append test (marks_above config height k) (rows_from config height k (b - k))) in
    let g = length-append (filter test (marks_above config height k)) (filter test (rows_from config height k (b - k))) in
    omega (arith, f, g)

-- ---- inside a rectangle

module _ (t : Table) (owners : HasOwners t.config.spans) (k x : ℕ) where
  -- a column that isn't the left one of its owner lies inside it
  pub inside-not_left : x < t.columns → ((owner t.config.spans k x).col ≡ x → ⊥) → is_inside t k x ≡ true
  unfolding is_inside same_owner
  inside-not_left h other =
      let spans : List Span = t.config.spans in
      let n = owners.near k x in
      let before : (owner spans k x).col < x = below (owner spans k x).col x n.right other in
      let same : owner spans k (x - 1) ≡ owner spans k x =
      owners.whole k x k (x - 1) (record { below = n.below; above = n.above; right = omega (arith, before); left = omega (arith, n.left, before) }) in
      let row = ap (λ (p : Position). p.row) same in
      let col = ap (λ (p : Position). p.col) same in
      grind (arith, nat_tests, h, before, row, col)
    where
      below : (a b : ℕ) → a ≤ b → (a ≡ b → ⊥) → a < b
      below a b h other = elim (cases_Bool (a == b)) [ inl e ↦ absurd (other (eqb-true a b e)) | inr e ↦ grind (arith, nat_tests, h, e) ]

  -- and the left one does not
  pub inside-left : (owner t.config.spans k x).col ≡ x → is_inside t k x ≡ false
  unfolding is_inside same_owner
  inside-left left =
      let spans : List Span = t.config.spans in
      elim (cases_Bool (nat_lt 0 x)) [
        | inr e ↦ rw e refl
        | inl e ↦
            let some : 0 < x = ltb-true 0 x e in
            let n = owners.near k (x - 1) in
            let col : ((owner spans k (x - 1)).col == (owner spans k x).col) ≡ false = (let right = n.right in grind (arith, nat_tests, left, right, some)) in
            other (nat_lt 0 x && nat_lt x t.columns) ((owner spans k (x - 1)).row == (owner spans k x).row) ((owner spans k (x - 1)).col == (owner spans k x).col) col
      ]
    where
      other : (a b c : Bool) → c ≡ false → (a && (b && c)) ≡ false
      other true true c e = e
      other true false c e = refl
      other false b c e = refl

-- nothing lies inside behind the last column
pub inside-end : (t : Table) (k : ℕ) → is_inside t k t.columns ≡ false
unfolding is_inside
inside-end t k = let e : nat_lt t.columns t.columns ≡ false = grind (arith, nat_tests) in grind (arith, nat_tests, e)

-- the parts of so many columns that agree
pub columns-same : {A : Type 0} (f g : ℕ → List A) (a n : ℕ) → ((x : ℕ) → a ≤ x → x < a + n → f x ≡ g x) → flat_map f (range_with_len a n) ≡ flat_map g (range_with_len a n)
columns-same f g a zero h = refl
columns-same f g a (suc n) h = ap₂ (λ xs ys. xs ++ ys) (h a (omega arith) (omega arith)) (columns-same f g (a + 1) n (λ x l m. h x (omega arith) (omega arith)))

-- ---- how far the open cells of the first columns reach, and what that tells of the owners of a row

-- ---- the greatest end

-- one of the numbers is at least as great as any that is below the greatest
found : (f : ℕ → ℕ) (x a n : ℕ) → x < greatest (map f (range_with_len a n)) → (y : ℕ) × (a ≤ y) × (y < a + n) × (x < f y)
found f x a zero h = absurd (omega (arith, h))
found f x a (suc n) h =
    elim (cases_Bool (nat_lt x (f a))) [
      | inl e ↦ (a, omega arith, omega arith, ltb-true x (f a) e)
      | inr e ↦
          let less : f a ≤ x = grind (arith, nat_tests, e) in
          let more = found f x (a + 1) n (omega (arith, h, less)) in
          (more.0, omega (arith, more.1), omega (arith, more.2), more.3)
    ]

pub option_cases : (o : Option Placed) → (o ≡ None) ⊎ ((cell : Placed) × (o ≡ Some cell))
option_cases None = inl refl
option_cases (Some cell) = inr (cell, refl)

-- an open cell left of column x that goes past it
pub record Reaching (spans : List Span) (cells : List (Option Placed)) (x : ℕ) : Type 0 where
  pub column : ℕ
  pub before : column < x
  pub cell : Placed
  pub here : slice_index_or cells column None ≡ Some cell
  pub past : x < column + rect_columns spans (at cell.begun column)

module _ (spans : List Span) (cells : List (Option Placed)) (x : ℕ) where
  pub reaching : x < reach spans cells x → Reaching spans cells x
  unfolding reach
  reaching h =
      let f : ℕ → ℕ = λ y. column_end spans (slice_index_or cells y None) y in
      let at_y = found f x 0 x h in
      elim (option_cases (slice_index_or cells at_y.0 None)) [
        | inl none ↦ let zero_end : column_end spans (slice_index_or cells at_y.0 None) at_y.0 ≡ 0 = ap (λ o. column_end spans o at_y.0) none in absurd (let past = at_y.3 in omega (arith, zero_end, past))
        | inr some ↦
            let end : column_end spans (slice_index_or cells at_y.0 None) at_y.0 ≡ at_y.0 + rect_columns spans (at some.0.begun at_y.0) = ap (λ o. column_end spans o at_y.0) some.1 in
            record { column = at_y.0; before = (let l = at_y.2 in omega (arith, l)); cell = some.0; here = some.1; past = (let past = at_y.3 in omega (arith, end, past)) }
      ]

  pub reached : Reaching spans cells x → x < reach spans cells x
  unfolding reach
  reached r =
      let f : ℕ → ℕ = λ y. column_end spans (slice_index_or cells y None) y in
      let least = greatest-reaches f 0 x r.column (omega arith) (let b = r.before in omega (arith, b)) in
      let end : column_end spans (slice_index_or cells r.column None) r.column ≡ r.column + rect_columns spans (at r.cell.begun r.column) = ap (λ o. column_end spans o r.column) r.here in
      let past = r.past in
      omega (arith, least, end, past)

-- ---- owners of row k

-- a column without an open cell is no owner's left one; an open cell is its owner
pub record IsOwner (spans : List Span) (k y : ℕ) (cell : Option Placed) : Type 0 where
  pub none : cell ≡ None → (owner spans k y).col ≡ y → ⊥
  pub some : (c : Placed) → cell ≡ Some c → owner spans k y ≡ at c.begun y

module _ (spans : List Span) (owners : HasOwners spans) (k : ℕ) (cells : List (Option Placed)) (x : ℕ) where
  -- what reaches past column x owns it
  reaching-owns : (r : Reaching spans cells x) → owner spans k r.column ≡ at r.cell.begun r.column → owner spans k x ≡ at r.cell.begun r.column
  reaching-owns r own =
      let n = owners.near k r.column in
      let row = ap (λ (p : Position). p.row) own in
      let rows = ap (λ p. rect_rows spans p) own in
      let col = ap (λ (p : Position). p.col) own in
      let columns = ap (λ p. rect_columns spans p) own in
      let past = r.past in
      let before = r.before in
      owners.whole k r.column k x (record { below = n.below; above = n.above; right = omega (arith, n.right, before); left = omega (arith, past, col, columns) }) ∙ own

  -- the owner of a place further right owns its own left column
  left-own : owner spans k (owner spans k x).col ≡ owner spans k x
  left-own =
      let n = owners.near k x in
      owners.whole k x k (owner spans k x).col (record { below = n.below; above = n.above; right = omega arith; left = omega (arith, n.right, n.left) })

  reaching-from : (c : Placed) → slice_index_or cells (owner spans k x).col None ≡ Some c → owner spans k (owner spans k x).col ≡ at c.begun (owner spans k x).col → (owner spans k x).col < x → Reaching spans cells x
  reaching-from c here own before =
      let n = owners.near k x in
      let same : owner spans k x ≡ at c.begun (owner spans k x).col = sym left-own ∙ own in
      let columns = ap (λ p. rect_columns spans p) same in
      record { column = (owner spans k x).col; before = before; cell = c; here = here; past = omega (arith, n.left, columns) }

  -- where all owners' cells are open, the cells reach past a column that isn't a left one
  pub reach-left : ((y : ℕ) → y < x → IsOwner spans k y (slice_index_or cells y None)) → nat_lt x (reach spans cells x) ≡ not (is_left spans k x)
  unfolding is_left
  reach-left all =
      elim (cases_Bool (nat_lt x (reach spans cells x))) [
        | inl e ↦
            let r = reaching spans cells x (ltb-true x (reach spans cells x) e) in
            let own = reaching-owns r ((all r.column r.before).some r.cell r.here) in
            let col = ap (λ (p : Position). p.col) own in
            let before = r.before in
            let other : ((owner spans k x).col == x) ≡ false = grind (arith, nat_tests, col, before) in
            rw (e, other) refl
        | inr e ↦
            elim (cases_Bool ((owner spans k x).col == x)) [
              | inl f ↦ rw (e, f) refl
              | inr f ↦
                  let n = owners.near k x in
                  let right = n.right in
                  let before : (owner spans k x).col < x = grind (arith, nat_tests, f, right) in
                  let at_left = all (owner spans k x).col before in
                  let left_col : (owner spans k (owner spans k x).col).col ≡ (owner spans k x).col = ap (λ (p : Position). p.col) left-own in
                  elim (option_cases (slice_index_or cells (owner spans k x).col None)) [
                    | inl none ↦ absurd (at_left.none none left_col)
                    | inr some ↦
                        let l = reached spans cells x (reaching-from some.0 some.1 (at_left.some some.0 some.1) before) in
                        absurd (grind (arith, nat_tests, e, l))
                  ]
            ]
      ]

  -- where those from above are open, they reach past a column that one of them holds and that isn't its left one
  pub reach-above : ((y : ℕ) → y < x → IsOwnerAbove spans k y (slice_index_or cells y None)) → nat_lt x (reach spans cells x) ≡ (begins_above spans k x && not (is_left spans k x))
  unfolding is_left begins_above
  reach-above all =
      elim (cases_Bool (nat_lt x (reach spans cells x))) [
        | inl e ↦
            let r = reaching spans cells x (ltb-true x (reach spans cells x) e) in
            let open_here = all r.column r.before in
            let own = reaching-owns r (open_here.some r.cell r.here) in
            let row = ap (λ (p : Position). p.row) own in
            let col = ap (λ (p : Position). p.col) own in
            let before = r.before in
            let older = open_here.above r.cell r.here in
            let other : ((owner spans k x).col == x) ≡ false = grind (arith, nat_tests, col, before) in
            let above : nat_lt (owner spans k x).row k ≡ true = grind (arith, nat_tests, row, older) in
            rw (e, above, other) refl
        | inr e ↦
            elim (cases_Bool (nat_lt (owner spans k x).row k && not ((owner spans k x).col == x))) [
              | inr f ↦ e ∙ sym f
              | inl f ↦
                  let n = owners.near k x in
                  let right = n.right in
                  let before : (owner spans k x).col < x = grind (arith, nat_tests, f, right) in
                  let older : (owner spans k x).row < k = grind (arith, nat_tests, f) in
                  let at_left = all (owner spans k x).col before in
                  let left_row : (owner spans k (owner spans k x).col).row < k = subst (λ (p : Position). p.row < k) (sym left-own) older in
                  let left_col : (owner spans k (owner spans k x).col).col ≡ (owner spans k x).col = ap (λ (p : Position). p.col) left-own in
                  elim (option_cases (slice_index_or cells (owner spans k x).col None)) [
                    | inl none ↦ absurd (at_left.none none left_row left_col)
                    | inr some ↦
                        let l = reached spans cells x (reaching-from some.0 some.1 (at_left.some some.0 some.1) before) in
                        absurd (grind (arith, nat_tests, e, l))
                  ]
            ]
      ]

  -- a place is its own owner where no cell of the row holds it
  pub own-test : ((y : ℕ) → y < x → IsOwner spans k y (slice_index_or cells y None)) → IsOwnerAbove spans k x (slice_index_or cells x None)
      → (not (nat_lt x (reach spans cells x)) && not (is_some (slice_index_or cells x None))) ≡ is_at (owner spans k x) k x
  unfolding is_left
  own-test all now =
      let n = owners.near k x in
      elim (cases_Bool (is_left spans k x)) [
        | inr f ↦
            let passed : nat_lt x (reach spans cells x) ≡ true = reach-left all ∙ ap not f in
            let other : is_at (owner spans k x) k x ≡ false = not_own f in
            rw (passed, other) refl
        | inl f ↦
            let free : nat_lt x (reach spans cells x) ≡ false = reach-left all ∙ ap not f in
            let left : (owner spans k x).col ≡ x = left_col f in
            elim (option_cases (slice_index_or cells x None)) [
              | inl none ↦
                  let below = n.below in
                  let not_above : (owner spans k x).row < k → ⊥ = λ above. now.none none above left in
                  let top : (owner spans k x).row ≡ k = at_top (owner spans k x).row k below not_above in
                  let own : is_at (owner spans k x) k x ≡ true = grind (arith, nat_tests, top, left) in
                  rw (free, none, own) refl
              | inr some ↦
                  let row : (owner spans k x).row ≡ some.0.begun = ap (λ (p : Position). p.row) (now.some some.0 some.1) in
                  let older = now.above some.0 some.1 in
                  let other : is_at (owner spans k x) k x ≡ false = grind (arith, nat_tests, row, older) in
                  rw (free, some.1, other) refl
            ]
      ]
    where
      left_col : is_left spans k x ≡ true → (owner spans k x).col ≡ x
      left_col f = eqb-true (owner spans k x).col x f

      not_own : is_left spans k x ≡ false → is_at (owner spans k x) k x ≡ false
      not_own f = grind (arith, nat_tests, f)

      at_top : (a b : ℕ) → a ≤ b → (a < b → ⊥) → a ≡ b
      at_top a b h none = elim (cases_Bool (nat_lt a b)) [ inl e ↦ absurd (none (ltb-true a b e)) | inr e ↦ grind (arith, nat_tests, e, h) ]

-- ---- a line of a row and a separator that are drawn off the open cells are those that are read off their slots

and_false : (b c : Bool) → c ≡ false → (b && c) ≡ false
and_false true c e = e
and_false false c e = refl

module _ (t : Table) (m : ℕ) (f : Position → Text) (owners : HasOwners t.config.spans) (k : ℕ) (cells : List (Option Placed)) where
  -- ---- a line of row k

  module _ (all : (x : ℕ) → x < t.columns → IsOwner t.config.spans k x (get_or cells x None)) (i : ℕ) where
    part-now : (x : ℕ) → x < t.columns → open_part t cells k i x ≡ slot_part (other t m f) (slots_of cells) k i x
    unfolding open_part slot_part rect_width is_inside
    part-now x h =
        let here : nat_lt x t.columns ≡ true = grind (arith, nat_tests, h) in
        elim (option_cases (get_or cells x None)) [
          | inl none ↦
              let inside = inside-not_left t owners k x h ((all x h).none none) in
              let slot = slots-at cells x ∙ ap slot_of none in
              rw (none, inside, here, slot) refl
          | inr some ↦
              let own = (all x h).some some.0 some.1 in
              let outside = inside-left t owners k x (ap (λ (p : Position). p.col) own) in
              let slot = slots-at cells x ∙ ap slot_of some.1 in
              rw (some.1, outside, here, slot) refl
        ]

    part-last : vertical t k i t.columns ≡ slot_part (other t m f) (slots_of cells) k i t.columns
    unfolding slot_part is_inside
    part-last =
        let end : nat_lt t.columns t.columns ≡ false = grind (arith, nat_tests) in
        let outside = inside-end t k in
        rw (outside, end) (sym (append-nil (vertical t k i t.columns)))

    pub open_line-slots : open_line t cells k i ≡ slot_line (other t m f) (slots_of cells) k i
    unfolding open_line slot_line
    open_line-slots =
        ap₂ (λ xs ys. xs ++ ys) (columns-same (open_part t cells k i) (slot_part (other t m f) (slots_of cells) k i) 0 t.columns (λ x l h. part-now x (omega (arith, h)))) part-last
        ∙ sym (range-more (slot_part (other t m f) (slots_of cells) k i) 0 t.columns ∙ ap (λ n. flat_map (slot_part (other t m f) (slots_of cells) k i) (range_with_len 0 t.columns) ++ slot_part (other t m f) (slots_of cells) k i n) (zero-add t.columns))

  -- ---- the separator above row k

  module _ (all : (x : ℕ) → x < t.columns → IsOwnerAbove t.config.spans k x (get_or cells x None)) (below : k < m) where
    same_rows : (x : ℕ) → SameForRows t.config (at k x) t.columns (k + 1) m
    same_rows x = rows_stay t.config (at k x) t.columns (k + 1) m (omega arith) below

    crossing-stays : (x : ℕ) → crossing_at t.config (k + 1) t.columns (at k x) ≡ crossing_at t.config m t.columns (at k x)
    unfolding crossing_at
    crossing-stays x = rw ((same_rows x).crossing, (same_rows x).crossing_color) refl

    horizontal-stays : (x : ℕ) → border_items t.config (at k x) (k + 1) (t.width x) (get_horizontal t.config (at k x) (k + 1)) ≡ border_items t.config (at k x) m (t.width x) (get_horizontal t.config (at k x) m)
    horizontal-stays x = ap (λ o. border_items t.config (at k x) (k + 1) (t.width x) o) (same_rows x).horizontal ∙ by_glyph (get_horizontal t.config (at k x) m)
      where
        by_glyph : (o : Option ℕ) → border_items t.config (at k x) (k + 1) (t.width x) o ≡ border_items t.config (at k x) m (t.width x) o
        by_glyph None = refl
        by_glyph (Some g) = ap (λ c. map (border_glyph t.config (at k x) (t.width x) g c) (range_with_len 0 (t.width x))) (same_rows x).horizontal_color

    covered-now : (x : ℕ) → x < t.columns → is_covered (other t m f) k x ≡ begins_above t.config.spans k x
    unfolding is_covered
    covered-now x h =
        let row : nat_lt k m ≡ true = grind (arith, nat_tests, below) in
        let col : nat_lt x t.columns ≡ true = grind (arith, nat_tests, h) in
        rw (row, col) refl

    reach-now : (x : ℕ) → x < t.columns → nat_lt x (reach t.config.spans cells x) ≡ (begins_above t.config.spans k x && not (is_left t.config.spans k x))
    reach-now x h = reach-above t.config.spans owners k cells x (λ y l. all y (omega (arith, l, h)))

    above-is : (x : ℕ) → (owner t.config.spans k x).row < k → begins_above t.config.spans k x ≡ true
    unfolding begins_above
    above-is x l = grind (arith, nat_tests, l)

    left-is : (x : ℕ) → (owner t.config.spans k x).col ≡ x → is_left t.config.spans k x ≡ true
    unfolding is_left
    left-is x e = grind (arith, nat_tests, e)

    is-above : (x : ℕ) → begins_above t.config.spans k x ≡ true → (owner t.config.spans k x).row < k
    unfolding begins_above
    is-above x e = ltb-true (owner t.config.spans k x).row k e

    is-left : (x : ℕ) → is_left t.config.spans k x ≡ true → (owner t.config.spans k x).col ≡ x
    unfolding is_left
    is-left x e = eqb-true (owner t.config.spans k x).col x e

    -- no rectangle from above holds the column
    part-free : (x : ℕ) → x < t.columns → begins_above t.config.spans k x ≡ false → open_separator_part t (k + 1) cells k x ≡ slot_separator_part (other t m f) (slots_of cells) k x
    unfolding open_separator_part slot_separator_part slot_column crossing
    part-free x h free =
        let here : nat_lt x t.columns ≡ true = grind (arith, nat_tests, h) in
        let reach_is : nat_lt x (reach t.config.spans cells x) ≡ false = reach-now x h ∙ (rw free refl) in
        let covered : is_covered (other t m f) k x ≡ false = covered-now x h ∙ free in
        let crosses : (is_inside (other t m f) k x && is_covered (other t m f) k x) ≡ false = and_false (is_inside (other t m f) k x) (is_covered (other t m f) k x) covered in
        elim (option_cases (get_or cells x None)) [
          | inr some ↦
              let row = ap (λ (p : Position). p.row) ((all x h).some some.0 some.1) in
              let above = (all x h).above some.0 some.1 in
              absurd (false≢true (sym free ∙ above-is x (omega (arith, row, above))))
          | inl none ↦ rw (reach_is, crosses, covered, here, none) (ap₂ (λ (a b : List Item). a ++ b) (crossing-stays x) (horizontal-stays x))
        ]

    -- one that begins further left holds it
    part-inside : (x : ℕ) → x < t.columns → begins_above t.config.spans k x ≡ true → is_left t.config.spans k x ≡ false → open_separator_part t (k + 1) cells k x ≡ slot_separator_part (other t m f) (slots_of cells) k x
    unfolding open_separator_part slot_separator_part slot_column crossing
    part-inside x h above right =
        let reach_is : nat_lt x (reach t.config.spans cells x) ≡ true = reach-now x h ∙ (rw (above, right) refl) in
        let covered : is_covered (other t m f) k x ≡ true = covered-now x h ∙ above in
        let inside : is_inside (other t m f) k x ≡ true = inside-not_left (other t m f) owners k x h (λ e. false≢true (sym right ∙ left-is x e)) in
        elim (option_cases (get_or cells x None)) [
          | inr some ↦
              let col = ap (λ (p : Position). p.col) ((all x h).some some.0 some.1) in
              absurd (false≢true (sym right ∙ left-is x col))
          | inl none ↦
              let slot = slots-at cells x ∙ ap slot_of none in
              rw (reach_is, inside, covered, slot) refl
        ]

    -- it is the left column of one
    part-left : (x : ℕ) → x < t.columns → begins_above t.config.spans k x ≡ true → is_left t.config.spans k x ≡ true → open_separator_part t (k + 1) cells k x ≡ slot_separator_part (other t m f) (slots_of cells) k x
    unfolding open_separator_part slot_separator_part slot_column crossing rect_width
    part-left x h above left =
        let reach_is : nat_lt x (reach t.config.spans cells x) ≡ false = reach-now x h ∙ (rw (above, left) refl) in
        let covered : is_covered (other t m f) k x ≡ true = covered-now x h ∙ above in
        let outside : is_inside (other t m f) k x ≡ false = inside-left (other t m f) owners k x (is-left x left) in
        elim (option_cases (get_or cells x None)) [
          | inl none ↦ absurd ((all x h).none none (is-above x above) (is-left x left))
          | inr some ↦
              let slot = slots-at cells x ∙ ap slot_of some.1 in
              rw (reach_is, outside, covered, slot, some.1) (ap (λ (a : List Item). a ++ cell_items (other t m f) m (Some some.0) k x) (crossing-stays x))
        ]

    separator-now : (x : ℕ) → x < t.columns → open_separator_part t (k + 1) cells k x ≡ slot_separator_part (other t m f) (slots_of cells) k x
    separator-now x h =
        elim (cases_Bool (begins_above t.config.spans k x)) [
          | inr free ↦ part-free x h free
          | inl above ↦ elim (cases_Bool (is_left t.config.spans k x)) [ inl left ↦ part-left x h above left | inr right ↦ part-inside x h above right ]
        ]

    crossing-last : crossing (other t m f) k t.columns ≡ crossing_at t.config m t.columns (at k t.columns)
    unfolding crossing
    crossing-last = let e = inside-end (other t m f) k in rw e refl

    column-last : slot_column (other t m f) (slots_of cells) k t.columns ≡ []
    unfolding slot_column is_covered
    column-last =
        let end : nat_lt t.columns t.columns ≡ false = grind (arith, nat_tests) in
        let row : nat_lt k m ≡ true = grind (arith, nat_tests, below) in
        rw (row, end) refl

    separator-last : crossing_at t.config (k + 1) t.columns (at k t.columns) ≡ slot_separator_part (other t m f) (slots_of cells) k t.columns
    unfolding slot_separator_part
    separator-last = crossing-stays t.columns ∙ sym (ap₂ (λ (a b : List Item). a ++ b) crossing-last column-last ∙ append-nil (crossing_at t.config m t.columns (at k t.columns)))

    pub open_separator-slots : open_separator t (k + 1) cells k ≡ slot_separator (other t m f) (slots_of cells) k
    unfolding open_separator slot_separator
    open_separator-slots =
        ap₂ (λ xs ys. xs ++ ys) (columns-same (open_separator_part t (k + 1) cells k) (slot_separator_part (other t m f) (slots_of cells) k) 0 t.columns (λ x l h. separator-now x (omega (arith, h)))) separator-last
        ∙ sym (range-more (slot_separator_part (other t m f) (slots_of cells) k) 0 t.columns ∙ ap (λ n. flat_map (slot_separator_part (other t m f) (slots_of cells) k) (range_with_len 0 t.columns) ++ slot_separator_part (other t m f) (slots_of cells) k n) (zero-add t.columns))
