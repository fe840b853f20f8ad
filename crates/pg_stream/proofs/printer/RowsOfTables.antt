-- The rows of a table and their texts: which texts a row needs, and that it doesn't depend on the rows below.
use Rattle.std.proofs.Common.{◌≡◌, ℕ, ◌+◌, ◌<◌, true, false, ◌&&◌, nat_lt, List, [], ◌++◌, flat_map, refl, ap, arith, inl, inr, if◌then◌else◌, suc, ◌-◌, ◌≤◌, Bool, ◌==◌, nat_le, ◌∷◌, map, length, length-append, ap₂, ◌∙◌, Option, Some, None, subst, zero, replicate, sym, add-zero, add_assoc, append_assoc, eqb-true}
use mathlib.Core.Path.{fun_ext}
use Rattle.std.specs.List.{range_with_len, enumerate_from}
use Rattle.std.proofs.lemmas.Bool.{cases_Bool, ltb-true, and_parts}
use Rattle.std.proofs.lemmas.Bool.Decides.{nat_tests}
use Rattle.pg_layout.specs.declared.position.Position.{Position}
use Rattle.pg_layout.specs.Position.{at}
use Rattle.pg_layout.specs.Text.{Text, greatest}
use Rattle.pg_config.specs.Config.{get_horizontal, Config, has_horizontal}
use Rattle.pg_config.specs.Spans.{owner, is_left, Span, rect_rows}
use Rattle.pg_picture.specs.Marks.{Mark, sep, line, only_if, marks_of_row, marks_above, body}
use Rattle.pg_picture.specs.Pieces.{Item, block, written, separator_text, continued}
use Rattle.pg_picture.specs.Table.{Table, rect_marks, rect_height, rect_width, block_at, row_part, line_of_row, is_inside, vertical, separator_part, separator_items, column_items, crossing, is_covered, horizontal_items, Hint, Known, Unknown, crossing_at, border_glyph, is_blank_at, side_margin, mark_text, body_line, table_body, margin_lines, full_width, total_width, side_margin_at, margin_line}
use Rattle.pg_layout.specs.declared.sides.Offset.{Offset}
use Rattle.pg_layout.specs.declared.sides.Offset.TheVariants.{Start, End}
use Rattle.pg_config.specs.Inside.{SameForRows}
use Rattle.pg_config.proofs.EqualLines.{rows_stay}
use Rattle.pg_picture.specs.Picture.{top_lines, body_lines}
use Rattle.pg_picture.proofs.MarksOfRectangles.{rows_from, marks_above-add, marks_within-rows}
use Rattle.pg_picture.proofs.OwnersOfPlaces.{Among}
use Rattle.pg_picture.proofs.Owners.{Apart, owner_cases}
use Rattle.pg_stream.specs.Printing.{row_end, rows_reached, lines_at}
use Rattle.pg_layout.specs.declared.sides.Indent.{Indent}
use Rattle.pg_layout.specs.Colors.{Color}
use Rattle.pg_picture.specs.Inside.{feed_before}
use Rattle.pg_picture.proofs.Pictures.{body_lines-nil, continued-nil, continued-append, continued-line, none-of-two}
use Rattle.pg_stream.specs.Inside.{open_line, line_at, open_line_at, open_lines, above_text, below_text, top_text, open_separator, draw_cell}
use Rattle.pg_stream.specs.Placed.{Placed}
use Rattle.pg_stream.proofs.draw.PartsOfLines.{above-absent, above-there, below-absent, below-there}

-- ---- a row, and the separator above it, ask only the texts of their owners

-- the texts of the cells that row r draws agree
unfoldable pub SameTexts : Table → (Position → Text) → ℕ → Type 0
SameTexts t f r = (x : ℕ) → x < t.columns → is_left t.config.spans r x ≡ true → t.text (owner t.config.spans r x) ≡ f (owner t.config.spans r x)

module _ (t : Table) (f : Position → Text) where
  abbrev retold : Table
  retold = record t { text = f }

  block_told : (p : Position) (mark : Mark) → t.text p ≡ f p → block_at t p mark ≡ block_at retold p mark
  unfolding block_at rect_width rect_height rect_marks
  block_told p mark h = rw h refl

  cell_told : (r x : ℕ) (mark : Mark) → SameTexts t f r
      → (if nat_lt x t.columns && is_left t.config.spans r x then block_at t (owner t.config.spans r x) mark else []) ≡ (if nat_lt x t.columns && is_left t.config.spans r x then block_at retold (owner t.config.spans r x) mark else [])
  unfolding SameTexts
  cell_told r x mark h =
      elim (cases_Bool (nat_lt x t.columns && is_left t.config.spans r x)) [
        | inl e ↦
            let k = and_parts (nat_lt x t.columns) (is_left t.config.spans r x) e in
            rw (e, block_told (owner t.config.spans r x) mark (h x (ltb-true x t.columns k.0) k.1)) refl
        | inr e ↦ rw e refl
      ]

  pub line_of_row-told : (r i : ℕ) → SameTexts t f r → line_of_row t r i ≡ line_of_row retold r i
  unfolding line_of_row row_part is_inside
  line_of_row-told r i h =
      ap (λ g. flat_map g (range_with_len 0 (t.columns + 1))) (fun_ext (λ x. ap (λ l. (if is_inside t r x then [] else vertical t r i x) ++ l) (cell_told r x (line r i) h)))

  own_told : (r x : ℕ) → SameTexts t f r → x < t.columns
      → only_if (is_left t.config.spans r x) (block (block_at t (owner t.config.spans r x) (sep r))) ≡ only_if (is_left t.config.spans r x) (block (block_at retold (owner t.config.spans r x) (sep r)))
  unfolding SameTexts
  own_told r x h inside =
      elim (cases_Bool (is_left t.config.spans r x)) [
        | inl e ↦ rw (e, block_told (owner t.config.spans r x) (sep r) (h x inside e)) refl
        | inr e ↦ rw e refl
      ]

  column_told : (r x : ℕ) → SameTexts t f r → column_items t r x ≡ column_items retold r x
  unfolding column_items is_covered
  column_told r x h =
      elim (cases_Bool (nat_lt x t.columns)) [
        | inl e ↦
            ap (λ (l : List Item). if is_covered t r x then l else if nat_lt x t.columns then horizontal_items t r x (get_horizontal t.config (at r x) t.rows) else []) (own_told r x h (ltb-true x t.columns e))
        | inr e ↦ uncovered e
      ]
    where
      uncovered : nat_lt x t.columns ≡ false → column_items t r x ≡ column_items retold r x
      uncovered e = elim (cases_Bool (nat_lt r t.rows)) [ inl g ↦ rw (g, e) refl | inr g ↦ rw (g, e) refl ]

  pub separator_items-told : (r : ℕ) → SameTexts t f r → separator_items t r ≡ separator_items retold r
  unfolding separator_items separator_part crossing is_covered is_inside
  separator_items-told r h =
      ap (λ g. flat_map g (range_with_len 0 (t.columns + 1))) (fun_ext (λ x. ap (λ l. crossing t r x ++ l) (column_told r x h)))

  -- no cell is drawn below the last row
  column_below : (x : ℕ) → column_items t t.rows x ≡ column_items retold t.rows x
  unfolding column_items is_covered
  column_below x = let e : nat_lt t.rows t.rows ≡ false = grind (arith, nat_tests) in rw e refl

  pub separator_items-below : separator_items t t.rows ≡ separator_items retold t.rows
  unfolding separator_items separator_part crossing is_covered is_inside
  separator_items-below = ap (λ g. flat_map g (range_with_len 0 (t.columns + 1))) (fun_ext (λ x. ap (λ l. crossing t t.rows x ++ l) (column_below x)))

-- ---- a row above the last one, and the separator above it, don't depend on the number of rows

-- ---- where rectangles end

-- the rectangle has a row and ends at or above row m
unfoldable pub Ends : Config → ℕ → Position → Type 0
Ends config m p = (0 < rect_rows config.spans p) × (p.row + rect_rows config.spans p ≤ m)

among_reached : (k : ℕ) (spans : List Span) (s : Span) → Among spans s → s.0.row ≤ k → s.0.row + s.1.rows ≤ greatest (map (row_end k) spans)
unfolding row_end
among_reached k [] s m h = absurd m
among_reached k (x ∷ xs) s (inl e) h =
    let row = ap (λ (y : Span). y.0.row) e in
    let end = ap (λ (y : Span). y.0.row + y.1.rows) e in
    let t : nat_le x.0.row k ≡ true = grind (arith, nat_tests, row, h) in
    rw t (omega (arith, end))
among_reached k (x ∷ xs) s (inr m) h = let ih = among_reached k xs s m h in omega (arith, ih)

-- the owners of row k end at or above the row that is reached
pub owner-reached : (spans : List Span) → Apart spans → (k c : ℕ) → (owner spans k c).row + rect_rows spans (owner spans k c) ≤ rows_reached spans k
unfolding rows_reached
owner-reached spans apart k c =
    elim (owner_cases spans apart k c) [
      | inl h ↦
          let row : (owner spans k c).row ≡ h.span.0.row = ap (λ (p : Position). p.row) h.own in
          let holds = h.holds in
          let b = among_reached k spans h.span h.among (grind (arith, nat_tests, holds)) in
          omega (arith, row, h.rows, b)
      | inr h ↦
          let row : (owner spans k c).row ≡ k = ap (λ (p : Position). p.row) h.own in
          omega (arith, row, h.rows)
    ]

-- ---- rows of a table with another number of rows

module _ (t : Table) (n : ℕ) where
  abbrev longer : Table
  longer = record t { rows = n }

  rect_marks_same : (p : Position) → Ends t.config t.rows p → Ends t.config n p → rect_marks t p ≡ rect_marks longer p
  unfolding rect_marks Ends
  rect_marks_same p hm hn =
      let k : ℕ = rect_rows t.config.spans p - 1 in
      let e : suc k ≡ rect_rows t.config.spans p = omega (arith, hm.0) in
      rw (← e) (marks_within-rows t.config t.height p.row k t.rows n (rw e hm.1) (rw e hn.1))

  block_at_same : (p : Position) (mark : Mark) → Ends t.config t.rows p → Ends t.config n p → block_at t p mark ≡ block_at longer p mark
  unfolding block_at rect_height rect_width
  block_at_same p mark hm hn = rw (rect_marks_same p hm hn)

  cell_same : (r x : ℕ) (mark : Mark) → ((c : ℕ) → c < t.columns → Ends t.config t.rows (owner t.config.spans r c) × Ends t.config n (owner t.config.spans r c))
      → (if nat_lt x t.columns && is_left t.config.spans r x then block_at t (owner t.config.spans r x) mark else []) ≡ (if nat_lt x t.columns && is_left t.config.spans r x then block_at longer (owner t.config.spans r x) mark else [])
  cell_same r x mark h =
      elim (cases_Bool (nat_lt x t.columns)) [
        | inl e ↦ let k = h x (ltb-true x t.columns e) in rw (block_at_same (owner t.config.spans r x) mark k.0 k.1)
        | inr e ↦ rw e
      ]

  row_line_same : (r i : ℕ) → ((c : ℕ) → c < t.columns → Ends t.config t.rows (owner t.config.spans r c) × Ends t.config n (owner t.config.spans r c))
      → line_of_row t r i ≡ line_of_row longer r i
  unfolding line_of_row row_part is_inside
  row_line_same r i h =
      ap (λ f. flat_map f (range_with_len 0 (t.columns + 1))) (fun_ext (λ x. ap (λ l. (if is_inside t r x then [] else vertical t r i x) ++ l) (cell_same r x (line r i) h)))

  stays : (r x : ℕ) → r < t.rows → r < n → SameForRows t.config (at r x) t.columns t.rows n
  stays r x hm hn = rows_stay t.config (at r x) t.columns t.rows n hm hn

  crossing_same : (r x : ℕ) → r < t.rows → r < n → crossing t r x ≡ crossing longer r x
  unfolding crossing crossing_at is_covered is_inside
  crossing_same r x hm hn =
      let a : nat_lt r t.rows ≡ true = grind (arith, nat_tests) in
      let b : nat_lt r n ≡ true = grind (arith, nat_tests) in
      rw (a, b, (stays r x hm hn).crossing, (stays r x hm hn).crossing_color)

  horizontal_items_same : (r x : ℕ) → r < t.rows → r < n → horizontal_items t r x (get_horizontal t.config (at r x) t.rows) ≡ horizontal_items longer r x (get_horizontal t.config (at r x) n)
  horizontal_items_same r x hm hn = ap (λ o. horizontal_items t r x o) (stays r x hm hn).horizontal ∙ same_items (get_horizontal t.config (at r x) n)
    where
      same_items : (o : Option ℕ) → horizontal_items t r x o ≡ horizontal_items longer r x o
      same_items None = refl
      same_items (Some g) = ap (λ c. map (border_glyph t.config (at r x) (t.width x) g c) (range_with_len 0 (t.width x))) (stays r x hm hn).horizontal_color

  column_same : (r x : ℕ) → r < t.rows → r < n → ((c : ℕ) → c < t.columns → Ends t.config t.rows (owner t.config.spans r c) × Ends t.config n (owner t.config.spans r c))
      → column_items t r x ≡ column_items longer r x
  unfolding column_items is_covered
  column_same r x hm hn h =
      let a : nat_lt r t.rows ≡ true = grind (arith, nat_tests) in
      let b : nat_lt r n ≡ true = grind (arith, nat_tests) in
      elim (cases_Bool (nat_lt x t.columns)) [
        | inl e ↦
            let k = h x (ltb-true x t.columns e) in
            rw (a, b, block_at_same (owner t.config.spans r x) (sep r) k.0 k.1, horizontal_items_same r x hm hn)
        | inr e ↦ rw (a, b, e)
      ]

  separator_items_same : (r : ℕ) → r < t.rows → r < n → ((c : ℕ) → c < t.columns → Ends t.config t.rows (owner t.config.spans r c) × Ends t.config n (owner t.config.spans r c))
      → separator_items t r ≡ separator_items longer r
  unfolding separator_items separator_part
  separator_items_same r hm hn h =
      ap (λ f. flat_map f (range_with_len 0 (t.columns + 1))) (fun_ext (λ x. ap₂ (λ (a b : List Item). a ++ b) (crossing_same r x hm hn) (column_same r x hm hn h)))

-- ---- lines that agree

-- the number of body lines is asked of End alone, in form Known
unfoldable pub SameHeight : Hint → ℕ → ℕ → Type 0
SameHeight Known h k = h ≡ k
SameHeight Unknown h k = Unit {0}

pub blank_same : (hint : Hint) (o : Offset) (i h k : ℕ) → i < h → i < k → SameHeight hint h k → is_blank_at hint o i h ≡ is_blank_at hint o i k
unfolding is_blank_at SameHeight
blank_same Known o i h k a b e = ap (λ n. is_blank_at Known o i n) e
blank_same Unknown (Start s) i h k a b e = grind (arith, nat_tests, a, b)
blank_same Unknown (End s) i h k a b e = refl

abbrev pub AllSame : Table → Table → List Mark → Type 0
AllSame t u [] = Unit {0}
AllSame t u (mark ∷ marks) = (mark_text t mark ≡ mark_text u mark) × AllSame t u marks

AllSame-append : (t u : Table) (xs ys : List Mark) → AllSame t u xs → AllSame t u ys → AllSame t u (xs ++ ys)
AllSame-append t u [] ys h k = k
AllSame-append t u (x ∷ xs) ys h k = (h.0, AllSame-append t u xs ys h.1 k)

-- the same table with another number of rows and other texts
abbrev pub other : Table → ℕ → (Position → Text) → Table
other t m f = record t { rows = m; text = f }

module _ (hint : Hint) (t : Table) (m : ℕ) (f : Position → Text) (h k : ℕ) (same : SameHeight hint h k) where
  line_same : (i : ℕ) (mark : Mark) → i < h → i < k → mark_text t mark ≡ mark_text (other t m f) mark → body_line hint t h (i, mark) ≡ body_line hint (other t m f) k (i, mark)
  unfolding body_line side_margin
  line_same i mark a b e =
      rw (blank_same hint t.config.margin_offset.left i h k a b same, blank_same hint t.config.margin_offset.right i h k a b same, e) refl

  pub lines_same : (i : ℕ) (marks : List Mark) → i + length marks ≤ h → i + length marks ≤ k → AllSame t (other t m f) marks
      → map (body_line hint t h) (enumerate_from i marks) ≡ map (body_line hint (other t m f) k) (enumerate_from i marks)
  lines_same i [] a b e = refl
  lines_same i (mark ∷ marks) a b e = ap₂ (λ (x : Text) (y : List Text). x ∷ y) (line_same i mark (omega arith) (omega arith) e.0) (lines_same (i + 1) marks (omega arith) (omega arith) e.1)

-- the marks of row k end inside the body
pub row_inside_body : (config : Config) (height : ℕ → ℕ) (k rows : ℕ) → k < rows → length (marks_above config height k) + length (marks_of_row config height k) ≤ length (body config height rows)
unfolding body marks_above
row_inside_body config height k rows h =
    let e : suc k + (rows - suc k) ≡ rows = omega arith in
    let a = subst (λ n. marks_above config height n ≡ marks_above config height (suc k) ++ rows_from config height (suc k) (rows - suc k)) e (marks_above-add config height (suc k) (rows - suc k)) in
    let b = ap (λ (l : List Mark). length l) a in
    let c = length-append (marks_above config height k ++ marks_of_row config height k) (rows_from config height (suc k) (rows - suc k)) in
    let d = length-append (marks_above config height k) (marks_of_row config height k) in
    let f = length-append (marks_above config height rows) (only_if (has_horizontal config rows rows) (sep rows)) in
    omega (arith, b, c, d, f)

-- ---- row k of two such tables

module _ (t : Table) (m : ℕ) (f : Position → Text) (k : ℕ) (below : k < t.rows) (under : k < m)
    (ends : (c : ℕ) → c < t.columns → Ends t.config t.rows (owner t.config.spans k c) × Ends t.config m (owner t.config.spans k c))
    (texts : SameTexts t f k) where
  sep_same : mark_text t (sep k) ≡ mark_text (other t m f) (sep k)
  unfolding mark_text SameTexts
  sep_same = ap separator_text (separator_items_same t m k below under ends ∙ separator_items-told (record t { rows = m }) f k texts)

  row_same : (i : ℕ) → mark_text t (line k i) ≡ mark_text (other t m f) (line k i)
  unfolding mark_text SameTexts
  row_same i = ap written (row_line_same t m k i ends ∙ line_of_row-told (record t { rows = m }) f k i texts)

  lines_all : (xs : List ℕ) → AllSame t (other t m f) (map (line k) xs)
  lines_all [] = tt
  lines_all (x ∷ xs) = (row_same x, lines_all xs)

  sep_all : (b : Bool) → AllSame t (other t m f) (only_if b (sep k))
  sep_all true = (sep_same, tt)
  sep_all false = tt

  marks_same : AllSame t (other t m f) (marks_of_row t.config t.height k)
  unfolding marks_of_row
  marks_same = AllSame-append t (other t m f) (only_if (has_horizontal t.config k (k + 1)) (sep k)) (map (line k) (range_with_len 0 (t.height k))) (sep_all (has_horizontal t.config k (k + 1))) (lines_all (range_with_len 0 (t.height k)))

  top_same : top_lines t ≡ top_lines (other t m f)
  unfolding top_lines margin_lines full_width total_width
  top_same = refl

  pub lines_at-same : (hint : Hint) → SameHeight hint (length (table_body t)) (length (table_body (other t m f)))
      → lines_at hint t k (length (marks_above t.config t.height k)) ≡ lines_at hint (other t m f) k (length (marks_above t.config t.height k))
  unfolding lines_at body_lines table_body
  lines_at-same hint same =
      ap₂ (λ (x y : List Text). x ++ y) (ap (λ (l : List Text). if k == 0 then l else []) top_same)
      (lines_same hint t m f (length (table_body t)) (length (table_body (other t m f))) same (length (marks_above t.config t.height k)) (marks_of_row t.config t.height k)
      (row_inside_body t.config t.height k t.rows below) (row_inside_body t.config t.height k m under) marks_same)

-- ---- the text of a row: the top margin above row 0, the separator above the row, and its lines

-- ---- a line of the body

-- what is known of the number h of the body's lines
unfoldable pub KnowsHeight : Hint → ℕ → Option ℕ → Type 0
KnowsHeight Known h height = height ≡ Some h
KnowsHeight Unknown h height = height ≡ None

unknown_margin : (indent : Indent) (offset : Offset) (color : Option Color) (i h : ℕ) → i < h → side_margin Unknown indent offset color i h ≡ side_margin Unknown indent offset color i (i + 1)
unfolding side_margin SameHeight
unknown_margin indent offset color i h l = rw (blank_same Unknown offset i h (i + 1) l (omega arith) tt) refl

margin-now : (hint : Hint) (indent : Indent) (offset : Offset) (color : Option Color) (i h : ℕ) (height : Option ℕ) → i < h → KnowsHeight hint h height → side_margin hint indent offset color i h ≡ side_margin_at height indent offset color i
unfolding KnowsHeight
margin-now Known indent offset color i h height l e = rw e refl
margin-now Unknown indent offset color i h height l e = rw e (unknown_margin indent offset color i h l)

line-now : (hint : Hint) (t : Table) (h : ℕ) (height : Option ℕ) (i : ℕ) (mark : Mark) → i < h → KnowsHeight hint h height
    → feed_before ((t.config.margin.top.size + i) == 0) ++ body_line hint t h (i, mark) ≡ line_at t.config height i (mark_text t mark)
unfolding body_line line_at
line-now hint t h height i mark l knows =
    let left = margin-now hint t.config.margin.left t.config.margin_offset.left t.config.margin_color.left i h height l knows in
    let right = margin-now hint t.config.margin.right t.config.margin_offset.right t.config.margin_color.right i h height l knows in
    let feed = sym (none-of-two t.config.margin.top.size i) in
    rw (feed, left, right) (sym (append_assoc (feed_before ((t.config.margin.top.size == 0) && (i == 0))) (written (side_margin_at height t.config.margin.left t.config.margin_offset.left t.config.margin_color.left i)) (mark_text t mark ++ written (side_margin_at height t.config.margin.right t.config.margin_offset.right t.config.margin_color.right i))))

-- one line, and those after it
continued-cons : (n : ℕ) (x : Text) (xs : List Text) → continued n (x ∷ xs) ≡ (feed_before (n == 0) ++ x) ++ continued (n + 1) xs
continued-cons n x xs = continued-append n (x ∷ []) xs ∙ ap (λ t. t ++ continued (n + 1) xs) (continued-line n x)

module _ (hint : Hint) (t : Table) (m : ℕ) (f : Position → Text) (k index : ℕ) (height : Option ℕ) (h : ℕ) (knows : KnowsHeight hint h height) (cells : List (Option Placed)) where
  abbrev top : ℕ
  top = t.config.margin.top.size

  -- ---- the lines of row k

  one_line : (a : ℕ) → mark_text (other t m f) (line k a) ≡ written (open_line t (map (draw_cell a) cells) k a) → line_at t.config height (index + a) (mark_text (other t m f) (line k a)) ≡ open_line_at t height cells k index a
  unfolding open_line_at
  one_line a same = ap (λ x. line_at t.config height (index + a) x) same

  lines-from : (a n : ℕ) → a + n ≤ t.height k → index + t.height k ≤ h → ((i : ℕ) → i < t.height k → mark_text (other t m f) (line k i) ≡ written (open_line t (map (draw_cell i) cells) k i))
      → continued (top + (index + a)) (map (body_line hint (other t m f) h) (enumerate_from (index + a) (map (line k) (range_with_len a n)))) ≡ flat_map (open_line_at t height cells k index) (range_with_len a n)
  lines-from a zero l inside same = continued-nil (top + (index + a))
  lines-from a (suc n) l inside same =
      continued-cons (top + (index + a)) (body_line hint (other t m f) h (index + a, line k a)) (map (body_line hint (other t m f) h) (enumerate_from ((index + a) + 1) (map (line k) (range_with_len (a + 1) n))))
      ∙ ap₂ (λ (x y : Text). x ++ y)
      (line-now hint (other t m f) h height (index + a) (line k a) (omega arith) knows ∙ one_line a (same a (omega arith)))
      (ap₂ (λ (p q : ℕ). continued p (map (body_line hint (other t m f) h) (enumerate_from q (map (line k) (range_with_len (a + 1) n)))))
      (let e : (top + (index + a)) + 1 ≡ top + (index + (a + 1)) = omega arith in e) (add_assoc index a 1)
      ∙ lines-from (a + 1) n (omega arith) inside same)

  pub lines-text : index + t.height k ≤ h → h ≡ length (table_body (other t m f)) → ((i : ℕ) → i < t.height k → mark_text (other t m f) (line k i) ≡ written (open_line t (map (draw_cell i) cells) k i))
      → continued (top + index) (body_lines hint (other t m f) index (map (line k) (range_with_len 0 (t.height k)))) ≡ open_lines t height cells k index (t.height k)
  unfolding body_lines open_lines
  lines-text inside all same =
      let a = lines-from 0 (t.height k) (omega arith) inside same in
      let b : continued (top + index) (map (body_line hint (other t m f) h) (enumerate_from index (map (line k) (range_with_len 0 (t.height k))))) ≡ flat_map (open_line_at t height cells k index) (range_with_len 0 (t.height k)) = (rw add-zero at a) in
      ap (λ n. continued (top + index) (map (body_line hint (other t m f) n) (enumerate_from index (map (line k) (range_with_len 0 (t.height k)))))) (sym all) ∙ b

  -- ---- the separator above it

  one_separator : h ≡ length (table_body (other t m f)) → continued (top + index) (body_lines hint (other t m f) index (sep k ∷ [])) ≡ feed_before ((top + index) == 0) ++ body_line hint (other t m f) h (index, sep k)
  unfolding body_lines
  one_separator all = continued-line (top + index) (body_line hint (other t m f) (length (table_body (other t m f))) (index, sep k)) ∙ ap (λ n. feed_before ((top + index) == 0) ++ body_line hint (other t m f) n (index, sep k)) (sym all)

  pub above-mark : (b : Bool) → b ≡ has_horizontal t.config k (k + 1) → index + length (only_if b (sep k)) ≤ h → h ≡ length (table_body (other t m f)) → (has_horizontal t.config k (k + 1) ≡ true → mark_text (other t m f) (sep k) ≡ separator_text (open_separator t (k + 1) cells k))
      → continued (top + index) (body_lines hint (other t m f) index (only_if b (sep k))) ≡ above_text t height cells k index
  above-mark false is inside all same = ap (λ l. continued (top + index) l) (body_lines-nil hint (other t m f) index) ∙ continued-nil (top + index) ∙ above-absent t height cells k index is refl
  above-mark true is inside all same =
      one_separator all ∙ line-now hint (other t m f) h height index (sep k) (omega arith) knows
      ∙ ap (λ x. line_at t.config height index x) (same (sym is))
      ∙ above-there t height cells k index is refl

  -- ---- the separator below the last row

  below-line : h ≡ length (table_body (other t m f)) → continued (top + index) (body_lines hint (other t m f) index (sep m ∷ [])) ≡ feed_before ((top + index) == 0) ++ body_line hint (other t m f) h (index, sep m)
  unfolding body_lines
  below-line all = continued-line (top + index) (body_line hint (other t m f) (length (table_body (other t m f))) (index, sep m)) ∙ ap (λ n. feed_before ((top + index) == 0) ++ body_line hint (other t m f) n (index, sep m)) (sym all)

  pub below-mark : (b : Bool) → b ≡ has_horizontal t.config m m → index + length (only_if b (sep m)) ≤ h → h ≡ length (table_body (other t m f)) → mark_text (other t m f) (sep m) ≡ separator_text (open_separator t m cells m)
      → continued (top + index) (body_lines hint (other t m f) index (only_if b (sep m))) ≡ below_text t height cells m index
  below-mark false is inside all same = ap (λ l. continued (top + index) l) (body_lines-nil hint (other t m f) index) ∙ continued-nil (top + index) ∙ below-absent t height cells m index is refl
  below-mark true is inside all same =
      below-line all ∙ line-now hint (other t m f) h height index (sep m) (omega arith) knows
      ∙ ap (λ x. line_at t.config height index x) same
      ∙ below-there t height cells m index is refl

-- ---- the top margin

top-lines : (t : Table) (m : ℕ) (f : Position → Text) (w : ℕ) → w ≡ full_width t → top_lines (other t m f) ≡ replicate t.config.margin.top.size (written (margin_line t.config.margin.top t.config.margin_offset.top t.config.margin_color.top w))
unfolding top_lines margin_lines full_width total_width
top-lines t m f w wide = rw wide refl

pub top-margin : (t : Table) (m : ℕ) (f : Position → Text) (w k n : ℕ) → w ≡ full_width t → (k ≡ 0 → n ≡ 0) → continued n (if k == 0 then top_lines (other t m f) else []) ≡ top_text t.config w k
unfolding top_text
top-margin t m f w k n wide start =
    elim (cases_Bool (k == 0)) [
      | inl e ↦ let none = start (eqb-true k 0 e) in rw (e, none) (ap (λ l. continued 0 l) (top-lines t m f w wide))
      | inr e ↦ rw e (continued-nil n)
    ]
