-- What is drawn of a rectangle: its owner, its size, and where a line of the body goes through it.
use Rattle.std.proofs.Common.{◌≡◌, ℕ, zero, suc, ◌+◌, ◌-◌, ◌<◌, ◌≤◌, Bool, true, false, cond, List, ◌∷◌, ◌++◌, map, length, filter, sum_by, count_by, refl, sym, ap, ◌∙◌, append_assoc, arith, subst, length-append, ◌^◌, Some, append-nil}
use Rattle.std.specs.List.{range_with_len}
use Rattle.std.proofs.lemmas.List.Elements.{filter-append}
use Rattle.std.proofs.lemmas.List.FromFn.{length-map-range_with_len}
use Rattle.std.proofs.lemmas.List.Sums.{sum_by-cons}
use Rattle.std.proofs.lemmas.Bool.Decides.{nat_tests}
use Rattle.pg_config.specs.Config.{Config, has_horizontal, count_horizontal}
use Rattle.pg_picture.specs.Marks.{Mark, sep, line, same_mark, only_if, marks_of_row, marks_above, body, stands_within, marks_within, place_of}
use Rattle.pg_picture.proofs.MarksOfRectangles.{NonePasses, index_in_filter, rows_from, marks_above-add, filter_lines, filter_sep, above_first, above_inside, run_of, row_lines, NonePasses-append, none_sep, sep_lines, before_line, place_of_line, split_at_line, after_line, length-rows_from, marks_within-run}
use Rattle.pg_picture.proofs.Pictures.{sep-stays}
use Rattle.pg_picture.proofs.Ranges.{sum_by-from_more, sum_by-part_le}
use Rattle.pg_config.specs.declared.spans.SpanSize.{SpanSize}
use Rattle.pg_layout.specs.declared.position.Position.{Position}
use Rattle.pg_layout.specs.Position.{at, is_at}
use Rattle.pg_config.specs.Spans.{Span, corner, in_span, owner, left_span, size_of, rect_rows, rect_columns, span_size}
use Rattle.pg_picture.specs.Pieces.{style_at, block_line}
use Rattle.pg_picture.specs.Table.{Table, rect_marks, rect_height, rect_width, block_at}
use Rattle.pg_picture.specs.Fits.{body_height, totals_fit, cell_fits, TableFits}
use Rattle.pg_picture.specs.Rectangles.{IsOwner}
use Rattle.pg_picture.specs.Inside.{rows_height}
use Rattle.pg_picture.proofs.FittingTables.{RectInside, rect_inside, totals_facts, owner_fits-own}
use Rattle.pg_picture.proofs.OwnersOfPlaces.{InOrder, Found, left_sound, room_among, owner_is, size_of_corner}

-- ---- where a line of the body stands in a rectangle that it goes through: below the rectangle's rows above it and the separators between them

-- how many lines k rows from a on have, with the separator below each
abbrev rows_high : Config → (ℕ → ℕ) → ℕ → ℕ → ℕ → ℕ
rows_high config height rows a k = sum_by height (range_with_len a k) + count_by (λ r. has_horizontal config r rows) (range_with_len (a + 1) k)

module _ (config : Config) (height : ℕ → ℕ) where
  length-sep : (b : Bool) (r : ℕ) → length (only_if b (sep r)) ≡ cond b 1 0
  length-sep true r = refl
  length-sep false r = refl

  sep_kept : (a b r rows : ℕ) → r < rows → r < b → (has : Bool) → has ≡ has_horizontal config r rows → a < r → length (filter (stands_within a b) (only_if has (sep r))) ≡ cond (has_horizontal config r rows) 1 0
  sep_kept a b r rows h k has is l = ap length (filter_sep a b r has true (grind (arith, nat_tests))) ∙ length-sep has r ∙ ap (λ x. cond x 1 0) is

  -- the rectangle's marks before row r + 1 of it, where it begins at row a
  above_rows : (rows a b k : ℕ) → a + suc k < b → b ≤ rows → length (filter (stands_within a b) (marks_above config height (a + suc k)))
      ≡ sum_by height (range_with_len a (suc k)) + count_by (λ r. has_horizontal config r rows) (range_with_len (a + 1) k)
  unfolding run_of row_lines
  above_rows rows a b k h l =
      let e : suc a ≡ a + 1 = omega arith in
      let rest = subst (λ c. length (rows_from config height (suc a) k) ≡ sum_by height (range_with_len c k) + count_by (λ r. has_horizontal config r rows) (range_with_len c k)) e (length-rows_from config height rows (suc a) k (omega (arith, h, l))) in
      let run : length (filter (stands_within a b) (marks_above config height (a + suc k))) ≡ length (map (line a) (range_with_len 0 (height a)) ++ rows_from config height (suc a) k) = ap (λ (m : List Mark). length m) (above_inside config height a b k (omega (arith, h))) in
      let heights : sum_by height (range_with_len a (suc k)) ≡ height a + sum_by height (range_with_len (a + 1) k) = sum_by-cons height a (range_with_len (a + 1) k) in
      let both = length-append (map (line a) (range_with_len 0 (height a))) (rows_from config height (suc a) k) in
      let first = length-map-range_with_len (line a) 0 (height a) in
      omega (arith, rest, run, both, first, heights)

  kept_lines : (a b r i : ℕ) → a ≤ r → r < b → length (filter (stands_within a b) (map (line r) (range_with_len 0 i))) ≡ i
  kept_lines a b r i h k = ap length (filter_lines a b r (range_with_len 0 i) true (grind (arith, nat_tests))) ∙ length-map-range_with_len (line r) 0 i

  three_parts : (a b : ℕ) (xs ys zs : List Mark) → length (filter (stands_within a b) (xs ++ (ys ++ zs))) ≡ length (filter (stands_within a b) xs) + (length (filter (stands_within a b) ys) + length (filter (stands_within a b) zs))
  three_parts a b xs ys zs =
      ap length (filter-append (stands_within a b) xs (ys ++ zs)) ∙ length-append (filter (stands_within a b) xs) (filter (stands_within a b) (ys ++ zs))
      ∙ ap (λ n. length (filter (stands_within a b) xs) + n) (ap length (filter-append (stands_within a b) ys zs) ∙ length-append (filter (stands_within a b) ys) (filter (stands_within a b) zs))

  -- the marks of the rectangle above row a + k, and the separator above that row
  marks_before : (rows a b k : ℕ) → a + k < b → b ≤ rows
      → length (filter (stands_within a b) (marks_above config height (a + k))) + length (filter (stands_within a b) (only_if (has_horizontal config (a + k) ((a + k) + 1)) (sep (a + k)))) ≡ rows_high config height rows a k
  marks_before rows a b zero h l =
      let here : a + 0 ≡ a = omega arith in
      let first : length (filter (stands_within a b) (marks_above config height (a + 0))) ≡ 0 = ap length (above_first config height a b (a + 0) (omega arith)) in
      let none : length (filter (stands_within a b) (only_if (has_horizontal config (a + 0) ((a + 0) + 1)) (sep (a + 0)))) ≡ 0 =
      ap length (filter_sep a b (a + 0) (has_horizontal config (a + 0) ((a + 0) + 1)) false (grind (arith, nat_tests))) in
      omega (arith, first, none)
  marks_before rows a b (suc k) h l =
      let f : ℕ → ℕ = λ r. cond (has_horizontal config r rows) 1 0 in
      let marks = above_rows rows a b k h l in
      let stays = sep-stays config (a + suc k) rows (omega (arith, h, l)) in
      let one = sep_kept a b (a + suc k) rows (omega (arith, h, l)) h (has_horizontal config (a + suc k) ((a + suc k) + 1)) stays (omega arith) in
      let q : k + 1 ≡ suc k = omega arith in
      let more = subst (λ n. sum_by f (range_with_len (a + 1) n) ≡ sum_by f (range_with_len (a + 1) k) + f ((a + 1) + k)) q (sum_by-from_more f (a + 1) k) in
      let z : f ((a + 1) + k) ≡ f (a + suc k) = ap f (omega arith) in
      omega (arith, marks, one, more, z)

  -- so many marks of the rectangle stand before line i of row a + k
  line_counted : (rows a b k i : ℕ) → a + k < b → b ≤ rows → length (filter (stands_within a b) (before_line config height (a + k) i)) ≡ rows_high config height rows a k + i
  unfolding before_line
  line_counted rows a b k i h l =
      let parts = three_parts a b (marks_above config height (a + k)) (only_if (has_horizontal config (a + k) ((a + k) + 1)) (sep (a + k))) (map (line (a + k)) (range_with_len 0 i)) in
      let before = marks_before rows a b k h l in
      let lines = kept_lines a b (a + k) i (omega arith) h in
      omega (arith, parts, before, lines)

  -- the place of a line of a row in a rectangle of rows a to b
  pub place-of_line : (rows a b r i : ℕ) → a ≤ r → r < b → b ≤ rows → i < height r → place_of (line r i) (marks_within config height rows a b) ≡ rows_high config height rows a (r - a) + i
  place-of_line rows a b r i h k l inside =
      let e : a + (r - a) ≡ r = omega (arith, h) in
      let there : a + (r - a) < b = omega (arith, h, k) in
      place_of_line config height rows a b r i (omega (arith, k, l)) inside h k
      ∙ subst (λ n. length (filter (stands_within a b) (before_line config height n i)) ≡ rows_high config height rows a (r - a) + i) e (line_counted rows a b (r - a) i there l)

  -- ---- separators

  sep_not_above : (r s : ℕ) → s ≤ r → NonePasses (same_mark (sep r)) (marks_above config height s)
  unfolding marks_above marks_of_row
  sep_not_above r zero h = tt
  sep_not_above r (suc s) h =
      NonePasses-append (same_mark (sep r)) (marks_above config height s) (marks_of_row config height s) (sep_not_above r s (omega (arith, h)))
      (NonePasses-append (same_mark (sep r)) (only_if (has_horizontal config s (s + 1)) (sep s)) (map (line s) (range_with_len 0 (height s)))
      (none_sep (sep r) _ s (grind (arith, nat_tests, h))) (sep_lines r s 0 (height s)))

  -- what stands in the body after the separator above row r
  after_sep : ℕ → ℕ → List Mark
  after_sep rows r = map (line r) (range_with_len 0 (height r)) ++ (rows_from config height (suc r) (rows - suc r) ++ only_if (has_horizontal config rows rows) (sep rows))

  split_at_sep : (rows r : ℕ) → r < rows → has_horizontal config r (r + 1) ≡ true → body config height rows ≡ marks_above config height r ++ sep r ∷ after_sep rows r
  unfolding body marks_above marks_of_row after_sep
  split_at_sep rows r h there =
      let j : ℕ = rows - suc r in
      let e : suc r + j ≡ rows = omega arith in
      let a : marks_above config height rows ≡ marks_above config height (suc r) ++ rows_from config height (suc r) j = subst (λ n. marks_above config height n ≡ marks_above config height (suc r) ++ rows_from config height (suc r) j) e (marks_above-add config height (suc r) j) in
      rw (a, there) (simp append_assoc)

  sep_counted : (rows a b r : ℕ) → r < rows → a < r → r < b → has_horizontal config r (r + 1) ≡ true → place_of (sep r) (marks_within config height rows a b) ≡ length (filter (stands_within a b) (marks_above config height r))
  unfolding place_of marks_within
  sep_counted rows a b r h l m there =
      rw (split_at_sep rows r h there)
      (index_in_filter (same_mark (sep r)) (stands_within a b) (sep r) (marks_above config height r) (after_sep rows r)
      (grind (arith, nat_tests)) (grind (arith, nat_tests)) (sep_not_above r r (omega arith)))

  -- the place of a separator between two rows of the rectangle: one line above its row
  pub place-of_sep : (rows a b r : ℕ) → a < r → r < b → b ≤ rows → has_horizontal config r rows ≡ true → place_of (sep r) (marks_within config height rows a b) + 1 ≡ rows_high config height rows a (r - a)
  place-of_sep rows a b r h k l there =
      let e : a + (r - a) ≡ r = omega (arith, h) in
      let inside : a + (r - a) < b = omega (arith, h, k) in
      let stays = sep-stays config r rows (omega (arith, k, l)) in
      let place = sep_counted rows a b r (omega (arith, k, l)) h k (stays ∙ there) in
      let before = subst (λ n. length (filter (stands_within a b) (marks_above config height n)) + length (filter (stands_within a b) (only_if (has_horizontal config n (n + 1)) (sep n))) ≡ rows_high config height rows a (r - a)) e (marks_before rows a b (r - a) inside l) in
      let one : length (filter (stands_within a b) (only_if (has_horizontal config r (r + 1)) (sep r))) ≡ 1 =
      sep_kept a b r rows (omega (arith, k, l)) k (has_horizontal config r (r + 1)) stays h ∙ ap (λ (x : Bool). cond x 1 0) there in
      omega (arith, place, before, one)

  -- a mark of the rectangle stands before the rectangle's end
  place_less : (a b : ℕ) (x : Mark) (before after : List Mark) (n : ℕ) → stands_within a b x ≡ true → n ≡ length (filter (stands_within a b) before) → n < length (filter (stands_within a b) (before ++ x ∷ after))
  place_less a b x before after n h is =
      let whole : length (filter (stands_within a b) (before ++ x ∷ after)) ≡ length (filter (stands_within a b) before) + length (filter (stands_within a b) (x ∷ after)) =
      ap length (filter-append (stands_within a b) before (x ∷ after)) ∙ length-append (filter (stands_within a b) before) (filter (stands_within a b) (x ∷ after)) in
      let own : length (filter (stands_within a b) (x ∷ after)) ≡ suc (length (filter (stands_within a b) after)) = rw h refl in
      omega (arith, whole, own, is)

  pub line-within : (rows a b r i : ℕ) → a ≤ r → r < b → b ≤ rows → i < height r → place_of (line r i) (marks_within config height rows a b) < length (marks_within config height rows a b)
  unfolding marks_within
  line-within rows a b r i h k l inside =
      let place = place_of_line config height rows a b r i (omega (arith, k, l)) inside h k in
      let less = place_less a b (line r i) (before_line config height r i) (after_line config height rows r i) (place_of (line r i) (marks_within config height rows a b)) (grind (arith, nat_tests, h, k)) place in
      subst (λ (m : List Mark). place_of (line r i) (marks_within config height rows a b) < length (filter (stands_within a b) m)) (sym (split_at_line config height rows r i (omega (arith, k, l)) inside)) less

  pub sep-within : (rows a b r : ℕ) → a < r → r < b → b ≤ rows → has_horizontal config r rows ≡ true → place_of (sep r) (marks_within config height rows a b) < length (marks_within config height rows a b)
  unfolding marks_within
  sep-within rows a b r h k l there =
      let stays = sep-stays config r rows (omega (arith, k, l)) in
      let place = sep_counted rows a b r (omega (arith, k, l)) h k (stays ∙ there) in
      let less = place_less a b (sep r) (marks_above config height r) (after_sep rows r) (place_of (sep r) (marks_within config height rows a b)) (grind (arith, nat_tests, h, k)) place in
      subst (λ (m : List Mark). place_of (sep r) (marks_within config height rows a b) < length (filter (stands_within a b) m)) (sym (split_at_sep rows r (omega (arith, k, l)) (stays ∙ there))) less

-- ---- what is drawn of a rectangle in a table that fits: its owner, its size, and the places of its lines

module _ (t : Table) where
  pub rect_of : (order : InOrder t.config.spans t.rows t.columns) (p : Position) → IsOwner t p → RectInside t.config.spans t.rows t.columns p
  rect_of order p o = rect_inside t.config.spans t.rows t.columns p order.fit o.row o.column

  -- an owner has room
  pub owner_room : TableFits t → (p : Position) → IsOwner t p → cell_fits (style_at t.config p) (t.text p) (rect_width t p) (rect_height t p) ≡ true
  owner_room fits p o = sym (owner_fits-own t p o.own) ∙ fits.rooms p.row p.col o.row o.column

  -- ---- the lines above a row

  -- they are no more than those of the body
  pub rows_height-le : (a k : ℕ) → a + k ≤ t.rows → rows_height t a k ≤ body_height t
  unfolding body_height count_horizontal
  rows_height-le a k h =
      let f : ℕ → ℕ = λ r. cond (has_horizontal t.config r t.rows) 1 0 in
      let heights = sum_by-part_le t.height a k t.rows h in
      let separators = sum_by-part_le f (a + 1) k (t.rows + 1) (omega (arith, h)) in
      omega (arith, heights, separators)

  pub rows_height-fits : totals_fit t ≡ true → (a k : ℕ) → a + k ≤ t.rows → rows_height t a k < 2 ^ 64
  rows_height-fits totals a k h = omega (arith, rows_height-le a k h, (totals_facts t totals).height)

  module _ (p : Position) (r : ℕ) (from : p.row ≤ r) (to : r < p.row + rect_rows t.config.spans p) (inside : p.row + rect_rows t.config.spans p ≤ t.rows) where
    -- the place of a line of row r in the rectangle of p
    pub line_place : (i : ℕ) → i < t.height r → place_of (line r i) (rect_marks t p) ≡ rows_height t p.row (r - p.row) + i
    unfolding rect_marks
    line_place i h = place-of_line t.config t.height t.rows p.row (p.row + rect_rows t.config.spans p) r i from to inside h

    pub line_inside : (i : ℕ) → i < t.height r → rows_height t p.row (r - p.row) + i < rect_height t p
    unfolding rect_marks rect_height
    line_inside i h =
        let less = line-within t.config t.height t.rows p.row (p.row + rect_rows t.config.spans p) r i from to inside h in
        omega (arith, less, line_place i h)

    -- and of the separator above it
    pub sep_place : p.row < r → has_horizontal t.config r t.rows ≡ true → place_of (sep r) (rect_marks t p) + 1 ≡ rows_height t p.row (r - p.row)
    unfolding rect_marks
    sep_place below there = place-of_sep t.config t.height t.rows p.row (p.row + rect_rows t.config.spans p) r below to inside there

    pub sep_inside : p.row < r → has_horizontal t.config r t.rows ≡ true → rows_height t p.row (r - p.row) - 1 < rect_height t p
    unfolding rect_marks rect_height
    sep_inside below there =
        let less = sep-within t.config t.height t.rows p.row (p.row + rect_rows t.config.spans p) r below to inside there in
        omega (arith, less, sep_place below there)

-- ---- what a search finds at a left column

module _ (t : Table) (order : InOrder t.config.spans t.rows t.columns) (r x : ℕ) (s : Span) (e : left_span t.config.spans r x ≡ Some s) where
  its : Found t.config.spans t.rows t.columns order r x s
  its = left_sound t.config.spans t.rows t.columns order r x s e

  rows_of_corner : rect_rows t.config.spans (corner s) ≡ s.1.rows
  unfolding rect_rows
  rows_of_corner = ap (λ (n : SpanSize). n.rows) (size_of_corner t.config.spans t.rows t.columns order s its.among)

  -- the corner of a rectangle is its owner
  pub corner_owns : IsOwner t (corner s)
  corner_owns =
      let room = room_among t.config.spans t.rows t.columns order s its.among in
      let there : in_span s.0.row s.0.col s ≡ true = grind (arith, nat_tests, room.some_rows, room.some_columns) in
      let own = owner_is t.config.spans t.rows t.columns order s.0.row s.0.col s its.among there in
      record {
        row = omega (arith, room.some_rows, room.rows_end);
        column = omega (arith, room.some_columns, room.columns_end);
        own = subst (λ (q : Position). is_at q s.0.row s.0.col ≡ true) (sym own) (grind (arith, nat_tests));
      }

  pub corner_from : s.0.row ≤ r
  corner_from = grind (arith, nat_tests, its.holds)

  pub corner_to : r < s.0.row + rect_rows t.config.spans (corner s)
  corner_to = let below : r < s.0.row + s.1.rows = grind (arith, nat_tests, its.holds) in omega (arith, below, rows_of_corner)

  pub corner_inside : s.0.row + rect_rows t.config.spans (corner s) ≤ t.rows
  corner_inside = omega (arith, (room_among t.config.spans t.rows t.columns order s its.among).rows_end, rows_of_corner)

-- ---- a cell of one row and one column

module _ (t : Table) (r x : ℕ) (one : size_of t.config.spans (at r x) ≡ span_size 1 1) where
  one_row : rect_rows t.config.spans (at r x) ≡ 1
  unfolding rect_rows
  one_row = ap (λ (n : SpanSize). n.rows) one

  one_column : rect_columns t.config.spans (at r x) ≡ 1
  unfolding rect_columns
  one_column = ap (λ (n : SpanSize). n.columns) one

  pub single_width : rect_width t (at r x) ≡ t.width x
  unfolding rect_width
  single_width = rw one_column (omega arith)

  single_marks : r < t.rows → rect_marks t (at r x) ≡ map (line r) (range_with_len 0 (t.height r))
  unfolding rect_marks run_of row_lines rows_from
  single_marks h = rw one_row (marks_within-run t.config t.height r 0 t.rows (omega arith) ∙ append-nil (map (line r) (range_with_len 0 (t.height r))))

  pub single_height : r < t.rows → rect_height t (at r x) ≡ t.height r
  unfolding rect_height
  single_height h = ap (λ (l : List Mark). length l) (single_marks h) ∙ length-map-range_with_len (line r) 0 (t.height r)

  single_place : r < t.rows → (i : ℕ) → i < t.height r → place_of (line r i) (rect_marks t (at r x)) ≡ i
  single_place h i k =
      let place = line_place t (at r x) r (omega arith) (omega (arith, one_row)) (omega (arith, one_row, h)) i k in
      let zero : r - r ≡ 0 = omega arith in
      let none : rows_height t r (r - r) ≡ 0 = rw zero refl in
      omega (arith, place, none)

  -- its lines are those of its row
  pub single_line : r < t.rows → (i : ℕ) → i < t.height r → block_at t (at r x) (line r i) ≡ block_line (style_at t.config (at r x)) (t.color (at r x)) (t.text (at r x)) (t.width x) (t.height r) i
  unfolding block_at
  single_line h i k = rw (single_width, single_height h, single_place h i k) refl

  pub single_room : TableFits t → r < t.rows → x < t.columns → owner t.config.spans r x ≡ at r x → cell_fits (style_at t.config (at r x)) (t.text (at r x)) (t.width x) (t.height r) ≡ true
  single_room fits h k own =
      let o : IsOwner t (at r x) = record { row = h; column = k; own = subst (λ (q : Position). is_at q r x ≡ true) (sym own) (grind (arith, nat_tests)) } in
      let room = owner_room t fits (at r x) o in
      (rw (single_width, single_height h) at room)
