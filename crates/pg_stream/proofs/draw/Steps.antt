-- The slots before a row, from row to row, and the place of a line in a rectangle.
use Rattle.std.proofs.Common.{◌≡◌, ℕ, ◌+◌, ◌<◌, ◌≤◌, Bool, true, false, cond, ◌&&◌, ◌==◌, nat_lt, refl, sym, ap, ap₂, ◌∙◌, arith, Option, Some, None, inl, inr, subst, eqb-true, zero-add, zero, suc, ◌-◌, List, ◌∷◌, ◌++◌, map, length, filter, length-append, append_assoc, append-nil}
use Rattle.std.proofs.lemmas.Bool.{cases_Bool, and_parts, ltb-true}
use Rattle.std.proofs.lemmas.Bool.Decides.{nat_tests}
use Rattle.pg_layout.specs.declared.position.Position.{Position}
use Rattle.pg_layout.specs.Position.{at, is_at}
use Rattle.pg_layout.specs.Text.{Text}
use Rattle.pg_config.specs.Config.{Config, has_horizontal}
use Rattle.pg_config.specs.Spans.{rect_rows, owner}
use Rattle.pg_picture.specs.Table.{Table}
use Rattle.pg_picture.proofs.Owners.{HasOwners}
use Rattle.pg_stream.specs.Open.{Slot, drawn_before, open_at_row}
use Rattle.pg_stream.specs.Inside.{begin_at, separator_height, next_slot}
use Rattle.pg_stream.proofs.DrawnLines.{drawn-first, drawn-more, length_of_row}
use Rattle.std.specs.List.{range_with_len}
use Rattle.std.proofs.lemmas.List.Elements.{filter-append}
use Rattle.std.proofs.lemmas.List.FromFn.{length-map-range_with_len}
use Rattle.pg_picture.specs.Marks.{Mark, sep, line, same_mark, only_if, marks_of_row, marks_above, body, stands_within, marks_within, place_of}
use Rattle.pg_picture.proofs.MarksOfRectangles.{NonePasses, index_in_filter, rows_from, marks_above-add, row_lines, row_first, row_inside, above_first, above_rest, filter_sep, place_of_line, before_line, NonePasses-append, none_sep, sep_lines}

-- ---- the slots before row k + 1 are those before row k, one step further, column by column

-- a cell that is open in column c before row k
pub open_value : (t : Table) (k c : ℕ) (p : Position) → owner t.config.spans k c ≡ p → p.row < k → p.col ≡ c
    → open_at_row t k c ≡ Some (record { begun = p.row; text = t.text p; drawn = drawn_before t.config t.height k p })
unfolding open_at_row
open_value t k c p own above left = let e : (nat_lt p.row k && (p.col == c)) ≡ true = grind (arith, nat_tests) in rw (own, e) refl

-- and a column where none is
pub open_none : (t : Table) (k c : ℕ) → ((owner t.config.spans k c).row < k → (owner t.config.spans k c).col ≡ c → ⊥) → open_at_row t k c ≡ None
unfolding open_at_row
open_none t k c h =
    elim (cases_Bool (nat_lt (owner t.config.spans k c).row k && ((owner t.config.spans k c).col == c))) [
      | inl e ↦
          let parts = and_parts (nat_lt (owner t.config.spans k c).row k) ((owner t.config.spans k c).col == c) e in
          absurd (h (ltb-true (owner t.config.spans k c).row k parts.0) (eqb-true (owner t.config.spans k c).col c parts.1))
      | inr e ↦ rw e refl
    ]

module _ (config : Config) (height : ℕ → ℕ) (k c : ℕ) (text : Text) where
  next-open : (slot : Slot) (v : Bool) → is_at (owner config.spans k c) k c ≡ false → nat_lt (k + 1) (slot.begun + rect_rows config.spans (at slot.begun c)) ≡ v
      → next_slot config height k c text (Some slot) ≡ cond v (Some (record slot { drawn = (slot.drawn + separator_height config k) + height k })) None
  unfolding next_slot begin_at
  next-open slot true h e = rw (h, e) refl
  next-open slot false h e = rw (h, e) refl

  next-new : (slot : Option Slot) (v : Bool) → is_at (owner config.spans k c) k c ≡ true → nat_lt (k + 1) (k + rect_rows config.spans (at k c)) ≡ v
      → next_slot config height k c text slot ≡ cond v (Some (record { begun = k; text = text; drawn = height k })) None
  unfolding next_slot begin_at
  next-new slot true h e = rw (h, e) (ap (λ d. Some (record { begun = k; text = text; drawn = d })) (zero-add (height k)))
  next-new slot false h e = rw (h, e) refl

  next-none : is_at (owner config.spans k c) k c ≡ false → next_slot config height k c text None ≡ None
  unfolding next_slot begin_at
  next-none h = rw h refl

pub at_own : (p : Position) (r c : ℕ) → p.row ≡ r → p.col ≡ c → p ≡ at r c
at_own p r c e f = ap₂ (λ r c. at r c) e f

module _ (t : Table) (owners : HasOwners t.config.spans) where
  -- what is open before row k + 1 owned its column in row k
  pub held : (k c : ℕ) → (owner t.config.spans (k + 1) c).row < k + 1 → owner t.config.spans k c ≡ owner t.config.spans (k + 1) c
  held k c above =
      let n = owners.near (k + 1) c in
      owners.whole (k + 1) c k c (record { below = omega arith; above = omega (arith, n.above); right = n.right; left = n.left })

  -- what owned its column in row k, and has row k + 1
  stays : (k c : ℕ) (p : Position) → owner t.config.spans k c ≡ p → p.row ≤ k → p.col ≡ c → k + 1 < p.row + rect_rows t.config.spans p → owner t.config.spans (k + 1) c ≡ p
  stays k c p own above left more =
      let n = owners.near k c in
      let P : Position → Type 0 = λ q. q.row ≤ k + 1 → k + 1 < q.row + rect_rows t.config.spans q → owner t.config.spans (k + 1) c ≡ q in
      subst P own (λ a b. owners.whole k c (k + 1) c (record { below = a; above = b; right = n.right; left = n.left })) (omega arith) more

  ends : (k c : ℕ) (p : Position) → owner t.config.spans k c ≡ p → nat_lt (k + 1) (p.row + rect_rows t.config.spans p) ≡ false → open_at_row t (k + 1) c ≡ None
  ends k c p own test =
      open_none t (k + 1) c (λ above left.
      let n = owners.near (k + 1) c in
      let same : owner t.config.spans (k + 1) c ≡ p = sym (held k c above) ∙ own in
      let more : k + 1 < p.row + rect_rows t.config.spans p = subst (λ (q : Position). k + 1 < q.row + rect_rows t.config.spans q) same n.above in
      grind (arith, nat_tests, more, test))

  open_step-at : (k c : ℕ) (p : Position) → owner t.config.spans k c ≡ p → open_at_row t (k + 1) c ≡ next_slot t.config t.height k c (t.text (at k c)) (open_at_row t k c)
  open_step-at k c p own =
      elim (cases_Bool (nat_lt p.row k && (p.col == c))) [
        | inl e ↦
            let parts = and_parts (nat_lt p.row k) (p.col == c) e in
            let above : p.row < k = ltb-true p.row k parts.0 in
            let left : p.col ≡ c = eqb-true p.col c parts.1 in
            let same : p ≡ at p.row c = at_own p p.row c refl left in
            let older : is_at (owner t.config.spans k c) k c ≡ false = (rw own (grind (arith, nat_tests))) in
            let slot : Slot = record { begun = p.row; text = t.text p; drawn = drawn_before t.config t.height k p } in
            let now : open_at_row t k c ≡ Some slot = open_value t k c p own above left in
            let n = subst (λ (q : Position). k < q.row + rect_rows t.config.spans q) own (owners.near k c).above in
            elim (cases_Bool (nat_lt (k + 1) (p.row + rect_rows t.config.spans p))) [
              | inl f ↦
                  let more : k + 1 < p.row + rect_rows t.config.spans p = ltb-true (k + 1) (p.row + rect_rows t.config.spans p) f in
                  open_value t (k + 1) c p (stays k c p own (omega arith) left more) (omega arith) left
                  ∙ ap (λ d. Some (record { begun = p.row; text = t.text p; drawn = d })) (drawn-more t.config t.height k p above n)
                  ∙ sym (ap (next_slot t.config t.height k c (t.text (at k c))) now ∙ next-open t.config t.height k c (t.text (at k c)) slot true older (subst (λ q. nat_lt (k + 1) (p.row + rect_rows t.config.spans q) ≡ true) same f))
              | inr f ↦
                  ends k c p own f
                  ∙ sym (ap (next_slot t.config t.height k c (t.text (at k c))) now ∙ next-open t.config t.height k c (t.text (at k c)) slot false older (subst (λ q. nat_lt (k + 1) (p.row + rect_rows t.config.spans q) ≡ false) same f))
            ]
        | inr e ↦
            let now : open_at_row t k c ≡ None = open_none t k c (λ above left. let a : p.row < k = (rw own at above) in let b : p.col ≡ c = (rw own at left) in grind (arith, nat_tests, a, b, e)) in
            elim (cases_Bool (is_at p k c)) [
              | inl f ↦
                  let parts = and_parts (p.row == k) (p.col == c) f in
                  let top : p.row ≡ k = eqb-true p.row k parts.0 in
                  let left : p.col ≡ c = eqb-true p.col c parts.1 in
                  let same : p ≡ at k c = at_own p k c top left in
                  let new : is_at (owner t.config.spans k c) k c ≡ true = (rw own f) in
                  let some : 0 < rect_rows t.config.spans p = (let n = subst (λ (q : Position). k < q.row + rect_rows t.config.spans q) own (owners.near k c).above in omega (arith, n, top)) in
                  elim (cases_Bool (nat_lt (k + 1) (p.row + rect_rows t.config.spans p))) [
                    | inl g ↦
                        let more : k + 1 < p.row + rect_rows t.config.spans p = ltb-true (k + 1) (p.row + rect_rows t.config.spans p) g in
                        open_value t (k + 1) c p (stays k c p own (omega arith) left more) (omega arith) left
                        ∙ ap (λ d. Some (record { begun = p.row; text = t.text p; drawn = d })) (drawn-first t.config t.height k p top some)
                        ∙ ap (λ (q : Position). Some (record { begun = q.row; text = t.text q; drawn = t.height k })) same
                        ∙ sym (next-new t.config t.height k c (t.text (at k c)) (open_at_row t k c) true new (subst (λ (q : Position). nat_lt (k + 1) (q.row + rect_rows t.config.spans q) ≡ true) same g))
                    | inr g ↦
                        ends k c p own g
                        ∙ sym (next-new t.config t.height k c (t.text (at k c)) (open_at_row t k c) false new (subst (λ (q : Position). nat_lt (k + 1) (q.row + rect_rows t.config.spans q) ≡ false) same g))
                  ]
              | inr f ↦
                  open_none t (k + 1) c (λ above left.
                  let same : p ≡ owner t.config.spans (k + 1) c = sym own ∙ held k c above in
                  let a : p.row < k + 1 = subst (λ (q : Position). q.row < k + 1) (sym same) above in
                  let b : p.col ≡ c = subst (λ (q : Position). q.col ≡ c) (sym same) left in
                  grind (arith, nat_tests, a, b, e, f))
                  ∙ sym (ap (next_slot t.config t.height k c (t.text (at k c))) now ∙ next-none t.config t.height k c (t.text (at k c)) (rw own f))
            ]
      ]

  -- the slots after row k: each takes one step
  pub open_step : (k c : ℕ) → open_at_row t (k + 1) c ≡ next_slot t.config t.height k c (t.text (at k c)) (open_at_row t k c)
  open_step k c = open_step-at k c (owner t.config.spans k c) refl

-- ---- the place of a mark of row k in a rectangle is what its slot has drawn; so a line of the row can be read off the slots

module _ (config : Config) (height : ℕ → ℕ) where
  -- line i of row k in a rectangle that begins above row k
  pub place-older : (rows a b k i : ℕ) → k < rows → i < height k → a < k → k < b
      → place_of (line k i) (marks_within config height rows a b) ≡ (length (filter (stands_within a b) (marks_above config height k)) + separator_height config k) + i
  unfolding before_line marks_of_row
  place-older rows a b k i h l above some =
      let n : ℕ → ℕ = λ r. i in
      let e = filter-append (stands_within a b) (marks_above config height k) (marks_of_row config n k) in
      let f = ap (λ (y : List Mark). length (filter (stands_within a b) (marks_above config height k) ++ y)) (row_inside config n a b k above some) in
      let g = length-append (filter (stands_within a b) (marks_above config height k)) (marks_of_row config n k) in
      let j = length_of_row config n k in
      place_of_line config height rows a b k i h l (omega arith) some ∙ ap (λ (l : List Mark). length l) e ∙ f ∙ omega (arith, g, j)

  -- and in one that begins at row k
  pub place-own : (rows b k i : ℕ) → k < rows → i < height k → k < b → place_of (line k i) (marks_within config height rows k b) ≡ i
  unfolding before_line marks_of_row row_lines
  place-own rows b k i h l some =
      let n : ℕ → ℕ = λ r. i in
      place_of_line config height rows k b k i h l (omega arith) some
      ∙ ap (λ (l : List Mark). length l) (filter-append (stands_within k b) (marks_above config height k) (marks_of_row config n k)
      ∙ ap₂ (λ (x y : List Mark). x ++ y) (above_first config height k b k (omega arith)) (row_first config n k b some))
      ∙ length-map-range_with_len (line k) 0 i

  -- the separator above row k
  sep_not_above : (k s : ℕ) → s ≤ k → NonePasses (same_mark (sep k)) (marks_above config height s)
  unfolding marks_above marks_of_row
  sep_not_above k zero h = tt
  sep_not_above k (suc s) h =
      NonePasses-append (same_mark (sep k)) (marks_above config height s) (only_if (has_horizontal config s (s + 1)) (sep s) ++ map (line s) (range_with_len 0 (height s))) (sep_not_above k s (omega arith))
      (NonePasses-append (same_mark (sep k)) (only_if (has_horizontal config s (s + 1)) (sep s)) (map (line s) (range_with_len 0 (height s))) (none_sep (sep k) _ s (grind (arith, nat_tests))) (sep_lines k s 0 (height s)))

  pub place-sep : (rows a b k : ℕ) → k < rows → has_horizontal config k (k + 1) ≡ true → a < k → k < b
      → place_of (sep k) (marks_within config height rows a b) ≡ length (filter (stands_within a b) (marks_above config height k))
  unfolding place_of marks_within body marks_above marks_of_row
  place-sep rows a b k h there above some =
      let j : ℕ = rows - suc k in
      let e : suc k + j ≡ rows = omega arith in
      let after : List Mark = map (line k) (range_with_len 0 (height k)) ++ (rows_from config height (suc k) j ++ only_if (has_horizontal config rows rows) (sep rows)) in
      let s : marks_above config height rows ≡ marks_above config height (suc k) ++ rows_from config height (suc k) j = subst (λ n. marks_above config height n ≡ marks_above config height (suc k) ++ rows_from config height (suc k) j) e (marks_above-add config height (suc k) j) in
      let whole : body config height rows ≡ marks_above config height k ++ sep k ∷ after = rw (s, there) (simp append_assoc) in
      rw whole (index_in_filter (same_mark (sep k)) (stands_within a b) (sep k) (marks_above config height k) after (grind (arith, nat_tests)) (grind (arith, nat_tests)) (sep_not_above k k (omega arith)))

  -- a rectangle's height does not depend on the number of rows
  pub height-is : (rows a b : ℕ) → a < b → b ≤ rows → length (marks_within config height rows a b) ≡ length (filter (stands_within a b) (marks_above config height b))
  unfolding marks_within body
  height-is rows a b h l =
      let e : b + (rows - b) ≡ rows = omega arith in
      ap (λ (l : List Mark). length l) (filter-append (stands_within a b) (marks_above config height rows) (only_if (has_horizontal config rows rows) (sep rows))
      ∙ ap₂ (λ (x y : List Mark). x ++ y) (subst (λ n. filter (stands_within a b) (marks_above config height n) ≡ filter (stands_within a b) (marks_above config height b)) e (above_rest config height a b (rows - b)))
      (filter_sep a b rows (has_horizontal config rows rows) false (grind (arith, nat_tests)))
      ∙ append-nil (filter (stands_within a b) (marks_above config height b)))
