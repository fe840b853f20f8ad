-- A line of row k and the separator above it, read off the slots.
use Rattle.std.proofs.Common.{◌≡◌, ℕ, ◌+◌, ◌<◌, ◌≤◌, true, false, ◌&&◌, ◌==◌, nat_lt, List, [], ◌++◌, map, flat_map, slice_index_or, refl, sym, ap, arith, zero-add, Some, None, inl, inr, subst, if◌then◌else◌, eqb-true, ◌∷◌}
use mathlib.Core.Path.{fun_ext}
use Rattle.std.specs.List.{range_with_len}
use Rattle.std.proofs.lemmas.Bool.{cases_Bool, ltb-true, and_parts}
use Rattle.std.proofs.lemmas.Bool.Decides.{nat_tests}
use Rattle.pg_layout.specs.declared.position.Position.{Position}
use Rattle.pg_layout.specs.Position.{at, is_at}
use Rattle.pg_config.specs.Spans.{Span, rect_rows, owner, is_left, begins_above}
use Rattle.pg_picture.specs.Marks.{line, sep, only_if}
use Rattle.pg_picture.specs.Sizes.{height_of_rect}
use Rattle.pg_picture.specs.Table.{Table, rect_marks, rect_height, block_at, row_part, line_of_row, vertical, is_inside, is_covered, crossing, column_items, separator_part, separator_items}
use Rattle.pg_picture.proofs.Owners.{HasOwners}
use Rattle.pg_stream.specs.Open.{drawn_before, open_at_row, open_before}
use Rattle.pg_stream.specs.Inside.{begin_at, separator_height, slot_block, slot_part, slot_line, slot_in_row, slot_item, slot_column, slot_separator_part, slot_separator}
use Rattle.pg_stream.proofs.draw.Steps.{open_value, open_none, at_own, place-older, place-own, height-is, place-sep}
use Rattle.pg_stream.proofs.printer.WholePictures.{at_range}
use Rattle.pg_config.specs.Config.{has_horizontal}
use Rattle.pg_picture.specs.Pieces.{block}

-- ---- a line of row k, read off the slots

left : (spans : List Span) (k x : ℕ) → is_left spans k x ≡ true → (owner spans k x).col ≡ x
unfolding is_left
left spans k x f = eqb-true (owner spans k x).col x f

module _ (t : Table) (owners : HasOwners t.config.spans) (k : ℕ) (below : k < t.rows) (ends : (c : ℕ) → (owner t.config.spans k c).row + rect_rows t.config.spans (owner t.config.spans k c) ≤ t.rows) where
  -- what stands in the slot of column x
  pub slot_older : (i x : ℕ) (p : Position) → owner t.config.spans k x ≡ p → p.row < k → p.col ≡ x
      → slot_in_row t k i x ≡ Some (record { begun = p.row; text = t.text p; drawn = (drawn_before t.config t.height k p + separator_height t.config k) + i })
  unfolding slot_in_row begin_at
  slot_older i x p own above left =
      let e : is_at (owner t.config.spans k x) k x ≡ false = (rw own (grind (arith, nat_tests, above))) in
      rw (open_value t k x p own above left, e) refl

  pub slot_own : (i x : ℕ) → owner t.config.spans k x ≡ at k x → slot_in_row t k i x ≡ Some (record { begun = k; text = t.text (at k x); drawn = i })
  unfolding slot_in_row begin_at
  slot_own i x own =
      let e : is_at (owner t.config.spans k x) k x ≡ true = (rw own (grind (arith, nat_tests))) in
      rw e (ap (λ d. Some (record { begun = k; text = t.text (at k x); drawn = d })) (zero-add i))

  pub slot_none : (i x : ℕ) → is_left t.config.spans k x ≡ false → slot_in_row t k i x ≡ None
  unfolding slot_in_row begin_at is_left
  slot_none i x other =
      let e : is_at (owner t.config.spans k x) k x ≡ false = grind (arith, nat_tests, other) in
      rw (open_none t k x (λ above left. grind (arith, nat_tests, left, other)), e) refl

  module _ (i : ℕ) (l : i < t.height k) where
    block_older : (x : ℕ) (p : Position) → owner t.config.spans k x ≡ p → p.row < k → p.col ≡ x → k < p.row + rect_rows t.config.spans p → p.row + rect_rows t.config.spans p ≤ t.rows
        → block_at t p (line k i) ≡ slot_block t (slot_in_row t k i x) x
    unfolding block_at rect_height rect_marks height_of_rect drawn_before
    block_older x p own above left some end =
        let b : ℕ = p.row + rect_rows t.config.spans p in
        let same : at p.row x ≡ p = sym (at_own p p.row x refl left) in
        rw (slot_older i x p own above left, same, place-older t.config t.height t.rows p.row b k i below l above some, height-is t.config t.height t.rows p.row b (omega arith) end) refl

    block_own : (x : ℕ) → owner t.config.spans k x ≡ at k x → k < k + rect_rows t.config.spans (at k x) → k + rect_rows t.config.spans (at k x) ≤ t.rows
        → block_at t (at k x) (line k i) ≡ slot_block t (slot_in_row t k i x) x
    unfolding block_at rect_height rect_marks height_of_rect
    block_own x own some end =
        let b : ℕ = k + rect_rows t.config.spans (at k x) in
        rw (slot_own i x own, place-own t.config t.height t.rows b k i below l some, height-is t.config t.height t.rows k b some end) refl

    block_by : (x : ℕ) (p : Position) → owner t.config.spans k x ≡ p → p.col ≡ x → p.row ≤ k → k < p.row + rect_rows t.config.spans p → p.row + rect_rows t.config.spans p ≤ t.rows
        → block_at t p (line k i) ≡ slot_block t (slot_in_row t k i x) x
    block_by x p own left above some end =
        elim (cases_Bool (p.row == k)) [
          | inl e ↦
              let same : p ≡ at k x = at_own p k x (eqb-true p.row k e) left in
              let P : Position → Type 0 = λ q. owner t.config.spans k x ≡ q → k < q.row + rect_rows t.config.spans q → q.row + rect_rows t.config.spans q ≤ t.rows → block_at t q (line k i) ≡ slot_block t (slot_in_row t k i x) x in
              subst P (sym same) (λ own some end. block_own x own some end) own some end
          | inr e ↦ block_older x p own (grind (arith, nat_tests, above, e)) left some end
        ]

    cell_now : (x : ℕ) → (if nat_lt x t.columns && is_left t.config.spans k x then block_at t (owner t.config.spans k x) (line k i) else [])
        ≡ (if nat_lt x t.columns then slot_block t (slice_index_or (map (slot_in_row t k i) (range_with_len 0 t.columns)) x None) x else [])
    cell_now x =
        elim (cases_Bool (nat_lt x t.columns)) [
          | inl e ↦
              let at_x = at_range (slot_in_row t k i) t.columns x None (ltb-true x t.columns e) in
              elim (cases_Bool (is_left t.config.spans k x)) [
                | inl f ↦ rw (e, f, at_x) (block_by x (owner t.config.spans k x) refl (left t.config.spans k x f) (owners.near k x).below (owners.near k x).above (ends x))
                | inr f ↦ rw (e, f, at_x, slot_none i x f) refl
              ]
          | inr e ↦ rw e refl
        ]

    -- the line of a row is the line that is read off the slots
    pub line_of_row-slots : line_of_row t k i ≡ slot_line t (map (slot_in_row t k i) (range_with_len 0 t.columns)) k i
    unfolding line_of_row row_part slot_line slot_part
    line_of_row-slots =
        ap (λ g. flat_map g (range_with_len 0 (t.columns + 1))) (fun_ext (λ x. ap (λ l. (if is_inside t k x then [] else vertical t k i x) ++ l) (cell_now x)))

-- ---- the separator above row k, read off the slots

covered_parts : (t : Table) (k x : ℕ) → is_covered t k x ≡ true → (nat_lt x t.columns ≡ true) × (begins_above t.config.spans k x ≡ true)
unfolding is_covered
covered_parts t k x e =
    let a = and_parts (nat_lt k t.rows && nat_lt x t.columns) (begins_above t.config.spans k x) e in
    ((and_parts (nat_lt k t.rows) (nat_lt x t.columns) a.0).1, a.1)

module _ (t : Table) (owners : HasOwners t.config.spans) (k : ℕ) (below : k < t.rows) (there : has_horizontal t.config k (k + 1) ≡ true)
    (ends : (c : ℕ) → (owner t.config.spans k c).row + rect_rows t.config.spans (owner t.config.spans k c) ≤ t.rows) where
  block_sep : (x : ℕ) (p : Position) → owner t.config.spans k x ≡ p → p.row < k → p.col ≡ x → k < p.row + rect_rows t.config.spans p → p.row + rect_rows t.config.spans p ≤ t.rows
      → block (block_at t p (sep k)) ∷ [] ≡ slot_item t (open_at_row t k x) x
  unfolding block_at rect_height rect_marks height_of_rect drawn_before
  block_sep x p own above left some end =
      let b : ℕ = p.row + rect_rows t.config.spans p in
      let same : at p.row x ≡ p = sym (at_own p p.row x refl left) in
      rw (open_value t k x p own above left, same, place-sep t.config t.height t.rows p.row b k below there above some, height-is t.config t.height t.rows p.row b (omega arith) end) refl

  own_sep : (x : ℕ) → begins_above t.config.spans k x ≡ true → only_if (is_left t.config.spans k x) (block (block_at t (owner t.config.spans k x) (sep k))) ≡ slot_item t (open_at_row t k x) x
  unfolding begins_above is_left
  own_sep x older =
      let p : Position = owner t.config.spans k x in
      let above : p.row < k = ltb-true p.row k older in
      elim (cases_Bool (p.col == x)) [
        | inl e ↦ rw e (block_sep x p refl above (eqb-true p.col x e) (owners.near k x).above (ends x))
        | inr e ↦ rw (e, open_none t k x (λ a left. grind (arith, nat_tests, left, e))) refl
      ]

  column_sep : (x : ℕ) → column_items t k x ≡ slot_column t (open_before t k) k x
  unfolding column_items slot_column open_before
  column_sep x =
      elim (cases_Bool (is_covered t k x)) [
        | inl e ↦
            let h = covered_parts t k x e in
            rw (e, at_range (open_at_row t k) t.columns x None (ltb-true x t.columns h.0)) (own_sep x h.1)
        | inr e ↦ rw e refl
      ]

  pub separator-slots : separator_items t k ≡ slot_separator t (open_before t k) k
  unfolding separator_items separator_part slot_separator slot_separator_part
  separator-slots = ap (λ g. flat_map g (range_with_len 0 (t.columns + 1))) (fun_ext (λ x. ap (λ l. crossing t k x ++ l) (column_sep x)))
