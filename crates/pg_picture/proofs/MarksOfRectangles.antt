-- The marks of a rectangle: their places, and how many there are.
use Rattle.std.proofs.Common.{◌≡◌, ℕ, zero, suc, ◌+◌, ◌-◌, ◌<◌, ◌≤◌, Bool, true, false, cond, not, ◌&&◌, nat_lt, nat_le, List, [], ◌∷◌, ◌++◌, map, length, filter, refl, sym, ap, ◌∙◌, append_assoc, append-nil, arith, add-suc, add-zero, one-add, inl, inr, ◌⊎◌, ap₂, subst, zero-add, ◌≢◌, suc-add, sum_by, count_by, length-append}
use Rattle.std.specs.List.{range_with_len, prefix_len}
use Rattle.std.proofs.lemmas.List.Elements.{filter-append}
use Rattle.std.proofs.lemmas.Bool.{cases_Bool}
use Rattle.std.proofs.lemmas.Bool.Decides.{nat_tests}
use Rattle.pg_config.specs.Config.{Config, has_horizontal, count_horizontal}
use Rattle.pg_picture.specs.Marks.{Mark, sep, line, only_if, marks_of_row, marks_above, body, stands_within, marks_within, same_mark, place_of}
use Rattle.std.proofs.lemmas.List.{map-append}
use Rattle.std.proofs.lemmas.List.FromFn.{length-map-range_with_len}
use Rattle.std.proofs.lemmas.List.Sums.{length-filter, count_by-le-length, sum_by-cons}
use Rattle.pg_layout.specs.declared.position.Position.{Position}
use Rattle.pg_layout.specs.Position.{at}
use Rattle.pg_config.specs.Spans.{rect_rows}
use Rattle.pg_config.proofs.EqualLines.{rows_stay}
use Rattle.pg_picture.specs.Table.{Table, rect_marks, rect_height, table_body}
use Rattle.pg_picture.specs.Fits.{body_height}
use Rattle.pg_picture.specs.Sizes.{height_of_rect}
use Rattle.pg_picture.proofs.Ranges.{sum_by-from_more}

-- ---- the marks of the body: the rows before a row, and the place of a mark in a rectangle

-- the marks of rows a to a + k
unfoldable pub rows_from : Config → (ℕ → ℕ) → ℕ → ℕ → List Mark
rows_from config height a zero = []
rows_from config height a (suc k) = rows_from config height a k ++ marks_of_row config height (a + k)

pub marks_above-add : (config : Config) (height : ℕ → ℕ) (a k : ℕ) → marks_above config height (a + k) ≡ marks_above config height a ++ rows_from config height a k
unfolding marks_above rows_from
marks_above-add config height a zero = rw add-zero (sym (append-nil (marks_above config height a)))
marks_above-add config height a (suc k) =
    rw add-suc (ap (λ l. l ++ marks_of_row config height (a + k)) (marks_above-add config height a k)
    ∙ append_assoc (marks_above config height a) (rows_from config height a k) (marks_of_row config height (a + k)))

-- the index of a mark in the filtered list is the number of marks of the rectangle before it
abbrev pub NonePasses : (Mark → Bool) → List Mark → Type 0
NonePasses e [] = Unit {0}
NonePasses e (x ∷ xs) = (e x ≡ false) × NonePasses e xs

pub index_in_filter : (e p : Mark → Bool) (x : Mark) (before after : List Mark) → e x ≡ true → p x ≡ true → NonePasses e before
    → prefix_len (λ y. not (e y)) (filter p (before ++ x ∷ after)) ≡ length (filter p before)
index_in_filter e p x [] after ex px n = rw px (rw ex refl)
index_in_filter e p x (y ∷ before) after ex px n =
    let ih : prefix_len (λ y. not (e y)) (filter p (before ++ x ∷ after)) ≡ length (filter p before) = index_in_filter e p x before after ex px n.1 in
    elim (cases_Bool (p y)) [ inl h ↦ rw h (rw n.0 (rw one-add (ap suc ih))) | inr h ↦ rw h ih ]

-- the marks of a rectangle stand one after another in the body
pub filter_lines : (a b r : ℕ) (xs : List ℕ) (t : Bool) → (nat_le a r && nat_lt r b) ≡ t → filter (stands_within a b) (map (line r) xs) ≡ cond t (map (line r) xs) []
filter_lines a b r [] true e = refl
filter_lines a b r [] false e = refl
filter_lines a b r (x ∷ xs) true e = rw e (ap (λ l. line r x ∷ l) (filter_lines a b r xs true e))
filter_lines a b r (x ∷ xs) false e = rw e (filter_lines a b r xs false e)

pub filter_sep : (a b r : ℕ) (h t : Bool) → (nat_lt a r && nat_lt r b) ≡ t → filter (stands_within a b) (only_if h (sep r)) ≡ cond t (only_if h (sep r)) []
filter_sep a b r true true e = rw e
filter_sep a b r true false e = rw e
filter_sep a b r false true e = refl
filter_sep a b r false false e = refl

module _ (config : Config) (height : ℕ → ℕ) where
  unfoldable pub row_lines : ℕ → List Mark
  row_lines r = map (line r) (range_with_len 0 (height r))

  row_by : (a b r : ℕ) (t s : Bool) → (nat_lt a r && nat_lt r b) ≡ s → (nat_le a r && nat_lt r b) ≡ t
      → filter (stands_within a b) (marks_of_row config height r) ≡ cond s (only_if (has_horizontal config r (r + 1)) (sep r)) [] ++ cond t (row_lines r) []
  unfolding marks_of_row row_lines
  row_by a b r t s es et =
      filter-append (stands_within a b) (only_if (has_horizontal config r (r + 1)) (sep r)) (map (line r) (range_with_len 0 (height r)))
      ∙ ap₂ (λ (x y : List Mark). x ++ y) (filter_sep a b r (has_horizontal config r (r + 1)) s es) (filter_lines a b r (range_with_len 0 (height r)) t et)

  pub row_outside : (a b r : ℕ) → (r < a) ⊎ (b ≤ r) → filter (stands_within a b) (marks_of_row config height r) ≡ []
  row_outside a b r h = row_by a b r false false (grind (arith, nat_tests)) (grind (arith, nat_tests))

  pub row_first : (a b : ℕ) → a < b → filter (stands_within a b) (marks_of_row config height a) ≡ row_lines a
  row_first a b h = row_by a b a true false (grind (arith, nat_tests)) (grind (arith, nat_tests))

  pub row_inside : (a b r : ℕ) → a < r → r < b → filter (stands_within a b) (marks_of_row config height r) ≡ marks_of_row config height r
  unfolding marks_of_row row_lines
  row_inside a b r h k = row_by a b r true true (grind (arith, nat_tests)) (grind (arith, nat_tests))

  pub above_first : (a b r : ℕ) → r ≤ a → filter (stands_within a b) (marks_above config height r) ≡ []
  unfolding marks_above
  above_first a b zero h = refl
  above_first a b (suc r) h =
      filter-append (stands_within a b) (marks_above config height r) (marks_of_row config height r)
      ∙ ap₂ (λ (x y : List Mark). x ++ y) (above_first a b r (omega arith)) (row_outside a b r (inl (omega arith)))

  -- its lines in the first row, then all marks of its other rows
  unfoldable pub run_of : ℕ → ℕ → List Mark
  run_of a k = row_lines a ++ rows_from config height (suc a) k

  pub above_inside : (a b k : ℕ) → a + suc k ≤ b → filter (stands_within a b) (marks_above config height (a + suc k)) ≡ run_of a k
  unfolding marks_above run_of rows_from
  above_inside a b zero h =
      rw (add-suc, add-zero) (filter-append (stands_within a b) (marks_above config height a) (marks_of_row config height a)
      ∙ ap₂ (λ (x y : List Mark). x ++ y) (above_first a b a (omega arith)) (row_first a b (omega arith))
      ∙ sym (append-nil (row_lines a)))
  above_inside a b (suc k) h =
      rw add-suc (filter-append (stands_within a b) (marks_above config height (a + suc k)) (marks_of_row config height (a + suc k))
      ∙ ap₂ (λ (x y : List Mark). x ++ y) (above_inside a b k (omega arith)) (row_inside a b (a + suc k) (omega arith) (omega arith))
      ∙ append_assoc (row_lines a) (rows_from config height (suc a) k) (marks_of_row config height (a + suc k))
      ∙ ap (λ r. row_lines a ++ (rows_from config height (suc a) k ++ marks_of_row config height r)) (let e : a + suc k ≡ suc a + k = omega arith in e))

  pub above_rest : (a b j : ℕ) → filter (stands_within a b) (marks_above config height (b + j)) ≡ filter (stands_within a b) (marks_above config height b)
  unfolding marks_above
  above_rest a b zero = rw add-zero
  above_rest a b (suc j) =
      rw add-suc (filter-append (stands_within a b) (marks_above config height (b + j)) (marks_of_row config height (b + j))
      ∙ ap₂ (λ (x y : List Mark). x ++ y) (above_rest a b j) (row_outside a b (b + j) (inr (omega arith)))
      ∙ append-nil (filter (stands_within a b) (marks_above config height b)))

  pub marks_within-run : (a k rows : ℕ) → a + suc k ≤ rows → marks_within config height rows a (a + suc k) ≡ run_of a k
  unfolding marks_within body
  marks_within-run a k rows h =
      let b : ℕ = a + suc k in
      let e : b + (rows - b) ≡ rows = omega arith in
      filter-append (stands_within a b) (marks_above config height rows) (only_if (has_horizontal config rows rows) (sep rows))
      ∙ ap₂ (λ (x y : List Mark). x ++ y)
      (subst (λ n. filter (stands_within a b) (marks_above config height n) ≡ run_of a k) e (above_rest a b (rows - b) ∙ above_inside a b k (omega arith)))
      (filter_sep a b rows (has_horizontal config rows rows) false (grind (arith, nat_tests)))
      ∙ append-nil (run_of a k)

  -- so a rectangle's marks don't depend on the number of rows
  pub marks_within-rows : (a k m n : ℕ) → a + suc k ≤ m → a + suc k ≤ n → marks_within config height m a (a + suc k) ≡ marks_within config height n a (a + suc k)
  marks_within-rows a k m n hm hn = marks_within-run a k m hm ∙ sym (marks_within-run a k n hn)

-- ---- the place of a mark in a rectangle is the number of the rectangle's marks before it in the body

pub NonePasses-append : (e : Mark → Bool) (xs ys : List Mark) → NonePasses e xs → NonePasses e ys → NonePasses e (xs ++ ys)
NonePasses-append e [] ys h k = k
NonePasses-append e (x ∷ xs) ys h k = (h.0, NonePasses-append e xs ys h.1 k)

pub none_sep : (m : Mark) (b : Bool) (r : ℕ) → same_mark m (sep r) ≡ false → NonePasses (same_mark m) (only_if b (sep r))
none_sep m true r h = (h, tt)
none_sep m false r h = tt

-- line (r, i) is none of the lines of another row, and none of the first i lines of its own
pub none_lines : (r i s a k : ℕ) → (s ≢ r) ⊎ (a + k ≤ i) → NonePasses (same_mark (line r i)) (map (line s) (range_with_len a k))
none_lines r i s a zero h = tt
none_lines r i s a (suc k) h = (grind (arith, nat_tests), none_lines r i s (a + 1) k (elim h [ inl n ↦ inl n | inr l ↦ inr (omega arith) ]))

pub sep_lines : (r s a k : ℕ) → NonePasses (same_mark (sep r)) (map (line s) (range_with_len a k))
sep_lines r s a zero = tt
sep_lines r s a (suc k) = (refl, sep_lines r s (a + 1) k)

-- the numbers up to i, i, and those after it
pub range-split : (a i j : ℕ) → range_with_len a (i + suc j) ≡ range_with_len a i ++ (a + i) ∷ range_with_len (a + i + 1) j
range-split a zero j = rw (zero-add, add-zero)
range-split a (suc i) j = rw suc-add (ap (λ l. a ∷ l) (range-split (a + 1) i j ∙ (let e : (a + 1) + i ≡ a + suc i = omega arith in rw e)))

module _ (config : Config) (height : ℕ → ℕ) where
  pub line_not_above : (r i s : ℕ) → s ≤ r → NonePasses (same_mark (line r i)) (marks_above config height s)
  unfolding marks_above marks_of_row
  line_not_above r i zero h = tt
  line_not_above r i (suc s) h =
      NonePasses-append (same_mark (line r i)) (marks_above config height s) (marks_of_row config height s) (line_not_above r i s (omega arith))
      (NonePasses-append (same_mark (line r i)) (only_if (has_horizontal config s (s + 1)) (sep s)) (map (line s) (range_with_len 0 (height s)))
      (none_sep (line r i) _ s refl) (none_lines r i s 0 (height s) (inl (λ e. omega arith))))

  -- what stands in the body before line i of row r
  unfoldable pub before_line : ℕ → ℕ → List Mark
  before_line r i = marks_above config height r ++ (only_if (has_horizontal config r (r + 1)) (sep r) ++ map (line r) (range_with_len 0 i))

  -- what stands there after it
  unfoldable pub after_line : ℕ → ℕ → ℕ → List Mark
  after_line rows r i = map (line r) (range_with_len (i + 1) (height r - suc i)) ++ (rows_from config height (suc r) (rows - suc r) ++ only_if (has_horizontal config rows rows) (sep rows))

  pub split_lines : (r i : ℕ) → i < height r → map (line r) (range_with_len 0 (height r)) ≡ map (line r) (range_with_len 0 i) ++ line r i ∷ map (line r) (range_with_len (i + 1) (height r - suc i))
  split_lines r i k =
      let e : i + suc (height r - suc i) ≡ height r = omega arith in
      let f = subst (λ n. range_with_len 0 n ≡ range_with_len 0 i ++ (0 + i) ∷ range_with_len (0 + i + 1) (height r - suc i)) e (range-split 0 i (height r - suc i)) in
      rw f (rw zero-add (map-append (λ x. line r x) (range_with_len 0 i) (i ∷ range_with_len (i + 1) (height r - suc i))))

  pub split_at_line : (rows r i : ℕ) → r < rows → i < height r → body config height rows ≡ before_line r i ++ line r i ∷ after_line rows r i
  unfolding body marks_above marks_of_row before_line after_line
  split_at_line rows r i h k =
      let j : ℕ = rows - suc r in
      let e : suc r + j ≡ rows = omega arith in
      let a : marks_above config height rows ≡ marks_above config height (suc r) ++ rows_from config height (suc r) j = subst (λ n. marks_above config height n ≡ marks_above config height (suc r) ++ rows_from config height (suc r) j) e (marks_above-add config height (suc r) j) in
      rw (a, split_lines r i k) (simp append_assoc)

  pub place_of_line : (rows a b r i : ℕ) → r < rows → i < height r → a ≤ r → r < b
      → place_of (line r i) (marks_within config height rows a b) ≡ length (filter (stands_within a b) (before_line r i))
  unfolding place_of marks_within before_line
  place_of_line rows a b r i h k l m =
      rw (split_at_line rows r i h k)
      (index_in_filter (same_mark (line r i)) (stands_within a b) (line r i) (before_line r i) (after_line rows r i)
      (grind (arith, nat_tests)) (grind (arith, nat_tests))
      (NonePasses-append (same_mark (line r i)) (marks_above config height r) (only_if (has_horizontal config r (r + 1)) (sep r) ++ map (line r) (range_with_len 0 i)) (line_not_above r i r (omega arith))
      (NonePasses-append (same_mark (line r i)) (only_if (has_horizontal config r (r + 1)) (sep r)) (map (line r) (range_with_len 0 i)) (none_sep (line r i) _ r refl) (none_lines r i r 0 i (inr (omega arith))))))

-- ---- a rectangle has the lines of its rows and the separators between them, and the body the lines of all rows and all separators

length-only_if : (b : Bool) (r : ℕ) → length (only_if b (sep r)) ≡ cond b 1 0
length-only_if true r = refl
length-only_if false r = refl

module _ (config : Config) (height : ℕ → ℕ) where
  length-row : (m r : ℕ) → r < m → length (marks_of_row config height r) ≡ cond (has_horizontal config r m) 1 0 + height r
  unfolding marks_of_row
  length-row m r h =
      let stays = (rows_stay config (at r 0) 0 (r + 1) m (omega arith) h).line in
      length-append (only_if (has_horizontal config r (r + 1)) (sep r)) (map (line r) (range_with_len 0 (height r)))
      ∙ ap₂ (λ (a b : ℕ). a + b) (length-only_if (has_horizontal config r (r + 1)) r ∙ ap (λ b. cond b 1 0) stays) (length-map-range_with_len (line r) 0 (height r))

  -- the lines of k rows from a on, and their separators
  pub length-rows_from : (m a k : ℕ) → a + k ≤ m → length (rows_from config height a k) ≡ sum_by height (range_with_len a k) + count_by (λ r. has_horizontal config r m) (range_with_len a k)
  unfolding rows_from
  length-rows_from m a zero h = refl
  length-rows_from m a (suc k) h =
      let f : ℕ → ℕ = λ r. cond (has_horizontal config r m) 1 0 in
      let e = length-append (rows_from config height a k) (marks_of_row config height (a + k)) in
      let ih : length (rows_from config height a k) ≡ sum_by height (range_with_len a k) + count_by (λ r. has_horizontal config r m) (range_with_len a k) = length-rows_from m a k (omega arith) in
      let row = length-row m (a + k) (omega arith) in
      let q : k + 1 ≡ suc k = omega arith in
      let s = subst (λ n. sum_by height (range_with_len a n) ≡ sum_by height (range_with_len a k) + height (a + k)) q (sum_by-from_more height a k) in
      let t = subst (λ n. sum_by f (range_with_len a n) ≡ sum_by f (range_with_len a k) + f (a + k)) q (sum_by-from_more f a k) in
      omega (arith, e, ih, row, s, t)

  run_length : (a k : ℕ) → length (filter (stands_within a (a + suc k)) (marks_above config height (a + suc k)))
      ≡ sum_by height (range_with_len a (suc k)) + count_by (λ r. has_horizontal config r (a + suc k)) (range_with_len (a + 1) k)
  unfolding run_of row_lines
  run_length a k =
      let e : suc a ≡ a + 1 = omega arith in
      let rows = subst (λ b. length (rows_from config height (suc a) k) ≡ sum_by height (range_with_len b k) + count_by (λ r. has_horizontal config r (a + suc k)) (range_with_len b k)) e (length-rows_from (a + suc k) (suc a) k (omega arith)) in
      let run : length (filter (stands_within a (a + suc k)) (marks_above config height (a + suc k))) ≡ length (map (line a) (range_with_len 0 (height a)) ++ rows_from config height (suc a) k) = ap (λ (l : List Mark). length l) (above_inside config height a (a + suc k) k (omega arith)) in
      let heights : sum_by height (range_with_len a (suc k)) ≡ height a + sum_by height (range_with_len (a + 1) k) = sum_by-cons height a (range_with_len (a + 1) k) in
      let both = length-append (map (line a) (range_with_len 0 (height a))) (rows_from config height (suc a) k) in
      let first = length-map-range_with_len (line a) 0 (height a) in
      omega (arith, rows, run, both, first, heights)

  -- a rectangle's height, from its rows' heights and the separators between them
  pub height_of_rect-sum : (p : Position) → 0 < rect_rows config.spans p
      → height_of_rect config height p
      ≡ sum_by height (range_with_len p.row (rect_rows config.spans p)) + count_by (λ r. has_horizontal config r (p.row + rect_rows config.spans p)) (range_with_len (p.row + 1) (rect_rows config.spans p - 1))
  unfolding height_of_rect
  height_of_rect-sum p h =
      let e : suc (rect_rows config.spans p - 1) ≡ rect_rows config.spans p = omega arith in
      subst (λ m. length (filter (stands_within p.row (p.row + m)) (marks_above config height (p.row + m))) ≡ sum_by height (range_with_len p.row m) + count_by (λ r. has_horizontal config r (p.row + m)) (range_with_len (p.row + 1) (rect_rows config.spans p - 1))) e
      (run_length p.row (rect_rows config.spans p - 1))

  pub length-body : (rows : ℕ) → length (body config height rows) ≡ sum_by height (range_with_len 0 rows) + count_horizontal config rows
  unfolding body count_horizontal marks_above
  length-body rows =
      let f : ℕ → ℕ = λ r. cond (has_horizontal config r rows) 1 0 in
      let above : marks_above config height rows ≡ rows_from config height 0 rows = subst (λ n. marks_above config height n ≡ rows_from config height 0 rows) (zero-add rows) (marks_above-add config height 0 rows) in
      let e = length-append (marks_above config height rows) (only_if (has_horizontal config rows rows) (sep rows)) in
      let a = ap (λ (l : List Mark). length l) above ∙ length-rows_from rows 0 rows (omega arith) in
      let b = length-only_if (has_horizontal config rows rows) rows in
      let t = sum_by-from_more f 0 rows in
      let z = ap f (zero-add rows) in
      omega (arith, e, a, b, t, z)

-- a body has as many lines as its height says
pub length-table_body : (t : Table) → length (table_body t) ≡ body_height t
unfolding table_body body_height
length-table_body t = length-body t.config t.height t.rows

-- a rectangle's height is the same in each table that it ends in
pub rect_height-of_rect : (t : Table) (p : Position) → 0 < rect_rows t.config.spans p → p.row + rect_rows t.config.spans p ≤ t.rows → rect_height t p ≡ height_of_rect t.config t.height p
unfolding rect_height rect_marks height_of_rect
rect_height-of_rect t p h inside =
    let n : ℕ = rect_rows t.config.spans p - 1 in
    let e : suc (rect_rows t.config.spans p - 1) ≡ rect_rows t.config.spans p = omega arith in
    subst (λ m. length (marks_within t.config t.height t.rows p.row (p.row + m)) ≡ length (filter (stands_within p.row (p.row + m)) (marks_above t.config t.height (p.row + m)))) e
    (ap (λ (l : List Mark). length l) (marks_within-run t.config t.height p.row (rect_rows t.config.spans p - 1) t.rows (omega arith) ∙ sym (above_inside t.config t.height p.row (p.row + suc (rect_rows t.config.spans p - 1)) (rect_rows t.config.spans p - 1) (omega arith))))

-- and at most the body's
pub rect_height-le : (t : Table) (p : Position) → rect_height t p ≤ body_height t
unfolding rect_height rect_marks marks_within table_body
rect_height-le t p =
    let test : Mark → Bool = stands_within p.row (p.row + rect_rows t.config.spans p) in
    let e = length-filter test (body t.config t.height t.rows) in
    let l = count_by-le-length test (body t.config t.height t.rows) in
    let whole = length-table_body t in
    omega (arith, e, l, whole)
