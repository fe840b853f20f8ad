-- A table printed row by row is its picture.
use Rattle.std.proofs.Common.{◌≡◌, ℕ, zero, suc, ◌+◌, ◌-◌, ◌<◌, ◌≤◌, Bool, true, false, ◌&&◌, ◌==◌, nat_lt, List, [], ◌∷◌, ◌++◌, map, length, length-append, replicate, slice_index_or, refl, sym, ap, ap₂, ◌∙◌, arith, append_assoc, zero-add, add-one, Option, Some, None, IfSome, inl, inr, subst, if◌then◌else◌, unwrap_or, eqb-true, ◌⊎◌}
use Rattle.std.specs.List.{range_with_len}
use Rattle.std.proofs.lemmas.Bool.{cases_Bool, ltb-true, and_parts}
use Rattle.std.proofs.lemmas.Bool.Decides.{nat_tests}
use Rattle.std.proofs.lemmas.List.FromFn.{get_or-map-range_with_len}
use Rattle.pg_layout.specs.declared.position.Position.{Position}
use Rattle.pg_layout.specs.Position.{at}
use Rattle.pg_layout.specs.Text.{Text}
use Rattle.pg_config.specs.Config.{has_horizontal}
use Rattle.pg_config.specs.Spans.{rect_rows, owner, is_left}
use Rattle.pg_picture.specs.Fits.{spans_fit}
use Rattle.pg_picture.specs.Marks.{Mark, sep, only_if, marks_of_row, marks_above, body}
use Rattle.pg_picture.specs.Pieces.{separator_text}
use Rattle.pg_picture.specs.Table.{Table, Hint, Known, Unknown, mark_text, table_body, margin_lines, full_width, total_width}
use Rattle.pg_picture.specs.Picture.{top_lines, bottom_lines, body_lines, picture_lines}
use Rattle.pg_picture.proofs.Pictures.{body_lines-append}
use Rattle.pg_picture.proofs.Owners.{Apart, HasOwners, owners_of, owner-ends}
use Rattle.pg_stream.specs.Open.{Slot, slot_text, open_at_row, open_before}
use Rattle.pg_stream.specs.Printing.{Printing, hint_of, rows_reached, rows_known, text_known, table_known, lines_at, lines_below, row_lines, finish_lines, printer, after_row, lines_of_rows}
use Rattle.pg_stream.proofs.draw.Steps.{open_value, open_none, at_own, held}
use Rattle.pg_stream.proofs.printer.RowsOfTables.{SameTexts, separator_items-below, Ends, owner-reached, SameHeight, AllSame, other, lines_same, lines_at-same}

-- ---- a printer in a table

-- the texts of row k
abbrev pub cells_at : Table → ℕ → List Text
cells_at t k = map (λ c. t.text (at k c)) (range_with_len 0 t.columns)

-- a printer that has printed the first k rows
unfoldable pub state_at : Table → Option ℕ → ℕ → Printing
state_at t hint k = record {
  table = record t { rows = 0; text = λ p. [] };
  hint = hint;
  rows = k;
  lines = length (marks_above t.config t.height k);
  is_ended = nat_lt 0 k && (k == t.rows);
  slots = open_before t k;
}

pub at_range : {A : Type 0} (f : ℕ → A) (n i : ℕ) (d : A) → i < n → slice_index_or (map f (range_with_len 0 n)) i d ≡ f i
at_range f n i d h = get_or-map-range_with_len f 0 n i i d h (zero-add i)

pub map_range-same : {A : Type 0} (f g : ℕ → A) (a n : ℕ) → ((c : ℕ) → a ≤ c → c < a + n → f c ≡ g c) → map f (range_with_len a n) ≡ map g (range_with_len a n)
map_range-same f g a zero h = refl
map_range-same f g a (suc n) h = ap₂ (λ x xs. x ∷ xs) (h a (omega arith) (omega arith)) (map_range-same f g (a + 1) n (λ c l m. h c (omega arith) (omega arith)))

module _ (t : Table) (hint : Option ℕ) (exact : IfSome hint (λ n. n ≡ t.rows)) (apart : Apart t.config.spans) (fits : spans_fit t.config.spans t.rows t.columns ≡ true) where
  owners : HasOwners t.config.spans
  owners = owners_of t.config.spans apart

  module _ (k : ℕ) where
    abbrev told : Position → Text
    told = text_known k (open_before t k) (cells_at t k)

    told_at : (x : ℕ) (p : Position) → owner t.config.spans k x ≡ p → x < t.columns → p.col ≡ x → p.row ≤ k → t.text p ≡ told p
    unfolding text_known open_before
    told_at x p own inside left above =
        elim (cases_Bool (p.row == k)) [
          | inl e ↦
              let same : p ≡ at k p.col = at_own p k p.col (eqb-true p.row k e) refl in
              rw e (ap (λ q. t.text q) same ∙ sym (at_range (λ c. t.text (at k c)) t.columns p.col [] (omega (arith, left))))
          | inr e ↦
              let over : p.row < k = (grind (arith, nat_tests, above, e)) in
              rw e (sym (ap (λ (s : Option _). slot_text s) (at_range (open_at_row t k) t.columns p.col None (omega (arith, left))
              ∙ ap (λ c. open_at_row t k c) left ∙ open_value t k x p own over left)))
        ]

    pub texts_known : SameTexts t told k
    unfolding SameTexts is_left
    texts_known x inside left =
        told_at x (owner t.config.spans k x) refl inside (eqb-true (owner t.config.spans k x).col x left) (owners.near k x).below

    module _ (below : k < t.rows) where
      abbrev last : Bool
      last = (k + 1) == t.rows

      abbrev known : ℕ
      known = rows_known (state_at t hint k) last

      known_by : (b : Bool) (o : Option ℕ) → ((k + 1) == t.rows) ≡ b → IfSome o (λ n. n ≡ t.rows)
          → ((if b then k + 1 else unwrap_or o (rows_reached t.config.spans k)) ≡ t.rows) ⊎ ((o ≡ None) × ((if b then k + 1 else unwrap_or o (rows_reached t.config.spans k)) ≡ rows_reached t.config.spans k))
      known_by true o e h = inl (eqb-true (k + 1) t.rows e)
      known_by false None e h = inr (refl, refl)
      known_by false (Some n) e h = inl h

      known_cases : (known ≡ t.rows) ⊎ ((hint ≡ None) × (known ≡ rows_reached t.config.spans k))
      unfolding rows_known state_at
      known_cases = known_by ((k + 1) == t.rows) hint refl exact

      known_under : k < known
      unfolding rows_reached
      known_under = elim known_cases [ inl e ↦ omega (arith, e) | inr e ↦ omega (arith, e.1) ]

      known_ends : (c : ℕ) → c < t.columns → Ends t.config t.rows (owner t.config.spans k c) × Ends t.config known (owner t.config.spans k c)
      unfolding Ends
      known_ends c inside =
          let n = owners.near k c in
          let a : 0 < rect_rows t.config.spans (owner t.config.spans k c) = omega (arith, n.below, n.above) in
          let b = owner-ends t.config.spans t.rows t.columns apart fits k c below in
          let d = owner-reached t.config.spans apart k c in
          ((a, b), (a, elim known_cases [ inl e ↦ omega (arith, b, e) | inr e ↦ omega (arith, d, e.1) ]))

      height_same : SameHeight (hint_of hint) (length (table_body t)) (length (table_body (other t known told)))
      unfolding SameHeight table_body
      height_same =
          elim known_cases [
            | inl e ↦ by_hint hint (ap (λ n. length (body t.config t.height n)) (sym e))
            | inr e ↦ rw e.0 tt
          ]
        where
          by_hint : (o : Option ℕ) → length (body t.config t.height t.rows) ≡ length (body t.config t.height known) → SameHeight (hint_of o) (length (body t.config t.height t.rows)) (length (body t.config t.height known))
          by_hint None e = tt
          by_hint (Some n) e = e

      -- `row` appends the lines of row k of the whole table
      pub row_lines-are : row_lines (state_at t hint k) (cells_at t k) last ≡ lines_at (hint_of hint) t k (length (marks_above t.config t.height k))
      unfolding row_lines table_known state_at
      row_lines-are = sym (lines_at-same t known told k below known_under known_ends texts_known (hint_of hint) height_same)

      open_told : (m c : ℕ) → c < t.columns → open_at_row (other t m told) (k + 1) c ≡ open_at_row t (k + 1) c
      unfolding open_at_row
      open_told m c inside =
          elim (cases_Bool (nat_lt (owner t.config.spans (k + 1) c).row (k + 1) && ((owner t.config.spans (k + 1) c).col == c))) [
            | inl e ↦
                let p : Position = owner t.config.spans (k + 1) c in
                let parts = and_parts (nat_lt p.row (k + 1)) (p.col == c) e in
                let above : p.row < k + 1 = ltb-true p.row (k + 1) parts.0 in
                let same : told p ≡ t.text p = sym (told_at c p (held t owners k c above) inside (eqb-true p.col c parts.1) (omega arith)) in
                rw (e, same) refl
            | inr e ↦ rw e refl
          ]

      slots_same : (m : ℕ) → open_before (other t m told) (k + 1) ≡ open_before t (k + 1)
      unfolding open_before
      slots_same m = map_range-same (open_at_row (other t m told) (k + 1)) (open_at_row t (k + 1)) 0 t.columns (λ c l h. open_told m c (omega (arith, h)))

      lines_more : length (marks_above t.config t.height k) + length (marks_of_row t.config t.height k) ≡ length (marks_above t.config t.height (k + 1))
      unfolding marks_above
      lines_more = rw add-one (sym (length-append (marks_above t.config t.height k) (marks_of_row t.config t.height k)))

      ended_same : last ≡ (nat_lt 0 (k + 1) && ((k + 1) == t.rows))
      ended_same = let e : nat_lt 0 (k + 1) ≡ true = grind (arith, nat_tests) in rw e refl

      -- and comes to the next state
      pub after_row-is : after_row (state_at t hint k) (cells_at t k) last ≡ state_at t hint (k + 1)
      unfolding after_row table_known state_at
      after_row-is = rw (slots_same (k + 1), lines_more, ← ended_same) refl

  -- `finish` appends the lines below
  below_same : (f : Position → Text) → lines_below (hint_of hint) (other t t.rows f) (length (marks_above t.config t.height t.rows)) ≡ lines_below (hint_of hint) t (length (marks_above t.config t.height t.rows))
  unfolding lines_below body_lines table_body bottom_lines margin_lines full_width total_width body mark_text SameHeight
  below_same f =
      ap (λ (l : List Text). l ++ bottom_lines t)
      (sym (lines_same (hint_of hint) t t.rows f (length (table_body t)) (length (table_body t)) (same_self (hint_of hint) (length (table_body t))) (length (marks_above t.config t.height t.rows)) (only_if (has_horizontal t.config t.rows t.rows) (sep t.rows))
      (omega (arith, length-append (marks_above t.config t.height t.rows) (only_if (has_horizontal t.config t.rows t.rows) (sep t.rows)))) (omega (arith, length-append (marks_above t.config t.height t.rows) (only_if (has_horizontal t.config t.rows t.rows) (sep t.rows))))
      (by_sep (has_horizontal t.config t.rows t.rows))))
    where
      same_self : (hint : Hint) (h : ℕ) → SameHeight hint h h
      same_self Known h = refl
      same_self Unknown h = tt

      by_sep : (b : Bool) → AllSame t (other t t.rows f) (only_if b (sep t.rows))
      by_sep true = (ap separator_text (separator_items-below t f), tt)
      by_sep false = tt

  pub finish_lines-are : 0 < t.rows → finish_lines (state_at t hint t.rows) ≡ lines_below (hint_of hint) t (length (marks_above t.config t.height t.rows))
  unfolding finish_lines table_known state_at
  finish_lines-are h = let e : (t.rows == 0) ≡ false = grind (arith, nat_tests, h) in rw e (below_same (text_known t.rows (open_before t t.rows) []))

-- ---- all rows

-- the texts of j rows from row k on
unfoldable pub texts_from : Table → ℕ → ℕ → List (List Text)
texts_from t k zero = []
texts_from t k (suc j) = cells_at t k ∷ texts_from t (k + 1) j

-- the marks of j rows from row k on, and the last separator
rest_marks : Table → ℕ → ℕ → List Mark
rest_marks t k zero = only_if (has_horizontal t.config t.rows t.rows) (sep t.rows)
rest_marks t k (suc j) = marks_of_row t.config t.height k ++ rest_marks t (k + 1) j

whole_body : (t : Table) (k j : ℕ) → k + j ≡ t.rows → table_body t ≡ marks_above t.config t.height k ++ rest_marks t k j
unfolding table_body body marks_above rest_marks
whole_body t k zero e = let f : t.rows ≡ k = omega (arith, e) in ap (λ n. marks_above t.config t.height n ++ only_if (has_horizontal t.config t.rows t.rows) (sep t.rows)) f
whole_body t k (suc j) e =
    whole_body t (k + 1) j (omega (arith, e))
    ∙ ap (λ n. marks_above t.config t.height n ++ rest_marks t (k + 1) j) (add-one k)
    ∙ append_assoc (marks_above t.config t.height k) (marks_of_row t.config t.height k) (rest_marks t (k + 1) j)

pub no_slots : (a n : ℕ) → map {A = ℕ} {B = Option Slot} (λ c. None) (range_with_len a n) ≡ replicate n None
no_slots a zero = refl
no_slots a (suc n) = ap (λ l. None ∷ l) (no_slots (a + 1) n)

module _ (t : Table) (hint : Option ℕ) (exact : IfSome hint (λ n. n ≡ t.rows)) (apart : Apart t.config.spans) (fits : spans_fit t.config.spans t.rows t.columns ≡ true) where
  abbrev tail : ℕ → ℕ → List Text
  tail k j = body_lines (hint_of hint) t (length (marks_above t.config t.height k)) (rest_marks t k j) ++ bottom_lines t

  abbrev margin_at : ℕ → List Text
  margin_at k = if k == 0 then top_lines t else []

  no_margin : (k : ℕ) → margin_at (k + 1) ≡ []
  no_margin k = let e : ((k + 1) == 0) ≡ false = grind (arith, nat_tests) in rw e refl

  one_more : (k j : ℕ) → lines_at (hint_of hint) t k (length (marks_above t.config t.height k)) ++ tail (k + 1) j ≡ margin_at k ++ tail k (suc j)
  unfolding lines_at rest_marks marks_above
  one_more k j =
      let i : ℕ = length (marks_above t.config t.height k) in
      let row : List Mark = marks_of_row t.config t.height k in
      append_assoc (margin_at k) (body_lines (hint_of hint) t i row) (tail (k + 1) j)
      ∙ ap (λ l. margin_at k ++ l) (sym (append_assoc (body_lines (hint_of hint) t i row) (body_lines (hint_of hint) t (length (marks_above t.config t.height (k + 1))) (rest_marks t (k + 1) j)) (bottom_lines t))
      ∙ ap (λ n. (body_lines (hint_of hint) t i row ++ body_lines (hint_of hint) t n (rest_marks t (k + 1) j)) ++ bottom_lines t) (rw add-one (length-append (marks_above t.config t.height k) row))
      ∙ ap (λ l. l ++ bottom_lines t) (sym (body_lines-append (hint_of hint) t i row (rest_marks t (k + 1) j))))

  rows_from_k : (j k : ℕ) → k + suc j ≡ t.rows → lines_of_rows (state_at t hint k) (texts_from t k (suc j)) ≡ margin_at k ++ tail k (suc j)
  unfolding lines_of_rows texts_from rest_marks lines_below
  rows_from_k zero k e =
      let below : k < t.rows = omega (arith, e) in
      let is : ((k + 1) == t.rows) ≡ true = grind (arith, nat_tests, e) in
      let same : t.rows ≡ k + 1 = omega (arith, e) in
      let a : row_lines (state_at t hint k) (cells_at t k) true ≡ lines_at (hint_of hint) t k (length (marks_above t.config t.height k)) = (rw is at (row_lines-are t hint exact apart fits k below)) in
      let b : after_row (state_at t hint k) (cells_at t k) true ≡ state_at t hint (k + 1) = (rw is at (after_row-is t hint exact apart fits k below)) in
      let c : finish_lines (state_at t hint (k + 1)) ≡ tail (k + 1) zero = subst (λ n. finish_lines (state_at t hint n) ≡ tail n zero) same (finish_lines-are t hint exact apart fits (omega (arith, e))) in
      ap₂ (λ (x y : List Text). x ++ y) a (ap finish_lines b ∙ c) ∙ one_more k zero
  rows_from_k (suc j) k e =
      let below : k < t.rows = omega (arith, e) in
      let is : ((k + 1) == t.rows) ≡ false = grind (arith, nat_tests, e) in
      let a : row_lines (state_at t hint k) (cells_at t k) false ≡ lines_at (hint_of hint) t k (length (marks_above t.config t.height k)) = (rw is at (row_lines-are t hint exact apart fits k below)) in
      let b : after_row (state_at t hint k) (cells_at t k) false ≡ state_at t hint (k + 1) = (rw is at (after_row-is t hint exact apart fits k below)) in
      let ih = rows_from_k j (k + 1) (omega (arith, e)) in
      ap₂ (λ (x y : List Text). x ++ y) a (ap (λ s. lines_of_rows s (texts_from t (k + 1) (suc j))) b ∙ ih ∙ ap (λ l. l ++ tail (k + 1) (suc j)) (no_margin k)) ∙ one_more k (suc j)

  start_slots : open_before t 0 ≡ replicate t.columns None
  unfolding open_before
  start_slots = map_range-same (open_at_row t 0) (λ c. None) 0 t.columns (λ c a b. open_none t 0 c (λ h l. omega (arith, h))) ∙ no_slots 0 t.columns

  pub start_is : printer t.config t.columns t.width t.height t.color hint ≡ state_at t hint 0
  unfolding printer state_at marks_above
  start_is = rw start_slots refl

  -- all rows and `finish` append the lines of the picture
  pub lines_of_rows-are : 0 < t.rows → lines_of_rows (printer t.config t.columns t.width t.height t.color hint) (texts_from t 0 t.rows) ≡ picture_lines (hint_of hint) t
  unfolding picture_lines marks_above
  lines_of_rows-are h =
      let j : ℕ = t.rows - 1 in
      let e : suc j ≡ t.rows = omega (arith, h) in
      let a = subst (λ n. lines_of_rows (state_at t hint 0) (texts_from t 0 n) ≡ margin_at 0 ++ tail 0 n) e (rows_from_k j 0 (omega (arith, h))) in
      ap (λ s. lines_of_rows s (texts_from t 0 t.rows)) start_is ∙ a
      ∙ ap (λ (l : List Mark). top_lines t ++ (body_lines (hint_of hint) t 0 l ++ bottom_lines t)) (sym (whole_body t 0 t.rows (zero-add t.rows)))
