-- The picture as its lines, in each of which a shown cell of its rectangle is drawn once.
use Rattle.std.proofs.Common.{◌≡◌, ℕ, suc, ◌+◌, ◌-◌, ◌<◌, ◌≤◌, Bool, true, false, ◌&&◌, nat_lt, List, [], ◌∷◌, ◌++◌, map, filter, refl, sym, ap, ◌∙◌, arith, append_assoc, subst, inl, inr, zero, length, ap₂, append-nil, length-append, one-add, slice_index_or, min, cond, not, ◌||◌, ◌==◌, flat_map, Option, unwrap_or, ◌⊎◌, zero-add, Some, None}
use Rattle.std.specs.List.{All, range_with_len, enumerate_from, list_any, join_with_byte}
use Rattle.std.proofs.lemmas.List.Elements.{All-nil, All-cons, All-head, All-tail, All-map, All-same, filter-append, All-weaker}
use Rattle.std.proofs.lemmas.Bool.{cases_Bool, and_parts, or_parts, false≢true}
use Rattle.std.proofs.lemmas.Bool.Decides.{nat_tests}
use Rattle.pg_layout.specs.declared.position.Position.{Position}
use Rattle.pg_layout.specs.Position.{is_at, at}
use Rattle.pg_config.specs.Config.{Config, has_horizontal, has_vertical, count_vertical, get_horizontal, get_vertical, get_intersection, get_horizontal_color, get_vertical_color, get_intersection_color, get_padding, get_padding_color, get_alignment_horizontal, get_alignment_vertical, get_formatting, get_justification, get_justification_color}
use Rattle.pg_config.specs.Spans.{owner, rect_rows, rect_columns, is_left, same_owner, begins_above, Span, in_span, has_row_spans, size_of, span_size}
use Rattle.pg_picture.specs.Marks.{Mark, sep, line, only_if, marks_of_row, marks_above, body, stands_within, marks_within, same_mark, place_of}
use Rattle.pg_picture.specs.Pieces.{block, Piece, style_at, block_line, pieces_width, Style, written, separator_text, shown, lines_above, inner_width, left_share, text_line, text_height, text_top, joined, fill}
use Rattle.pg_picture.specs.Table.{Table, rect_marks, block_at, is_inside, is_covered, vertical, crossing, column_items, separator_part, table_body, rect_height, rect_width, Hint, vertical_at, row_part, line_of_row, crossing_at, separator_items, total_width, full_width, side_margin, margin_lines, mark_text, body_line, horizontal_items, is_blank_at, Known}
use Rattle.pg_picture.proofs.Owners.{HasOwners, apart_from, owners_of, is_at-same}
use Rattle.pg_picture.proofs.FittingTables.{RectInside, rect_inside, rect_height-one_row, row_part_plain, row_part_plain_end, crossing_plain, column_items_plain}
use Rattle.pg_picture.proofs.Pictures.{All-body, All-enumerate_from, body-same, map-same, length-body_lines, length-top, picture-none, picture-some, flat_map-same, hints_are_idle}
use Rattle.pg_picture.proofs.MarksOfRectangles.{rows_from, row_lines, run_of, marks_above-add, marks_within-run, NonePasses, NonePasses-append, none_sep, sep_lines, line_not_above, rect_height-of_rect, length-table_body}
use Rattle.pg_picture.proofs.WalksOfRows.{row-begins, row-inside, no-crossing, column-inside, column-begins, separator_part_end}
use Rattle.pg_picture.proofs.StraightColumns.{fits-columns}
use Rattle.pg_laws.specs.Laws.{IsDrawn, ShownCellsAreDrawn, StandTogether, RectanglesStandTogether, BlocksAreDrawn, BlocksFill, block_of, aligned_down, IsFull, FullCellsIgnoreAlignment, HasSingleLines, SingleLinesIgnoreAlignment, NothingToDraw, NothingCompactToDraw, LinesAreJoined, CompactLinesAreJoined, IsOneLine, LinesAreCut, CompactLinesAreCut, LinesAreCounted, PlainRows, PlainSeparators, HasNoMargins, BodiesStandAlone, KnowsMargins, HaveSameParts, TextsAreOne}
use Rattle.std.proofs.lemmas.List.{length-map, length-replicate}
use Rattle.std.proofs.lemmas.Simd.{map-map}
use Rattle.pg_picture.proofs.PlacesOfTexts.{block_line-width, length-shown, lines_above-none}
use mathlib.Core.Path.{fun_ext}
use Rattle.pg_layout.specs.declared.position.ColumnPlace.{ColumnPlace}
use Rattle.pg_layout.specs.Keys.{by_columns, column_place}
use Rattle.pg_layout.specs.declared.alignment.AlignmentVertical.{AlignmentVertical}
use Rattle.pg_layout.specs.Places.{same, value_at}
use Rattle.pg_layout.specs.Colors.{Color}
use Rattle.pg_layout.specs.Text.{Text, lines_of}
use Rattle.pg_config.specs.Settings.{Settings}
use Rattle.pg_picture.specs.Picture.{top_lines, bottom_lines, body_lines, picture_lines, picture, compact_picture}
use Rattle.std.proofs.lemmas.List.Splits.{slice_split_none, slice_split_at}
use Rattle.pg_picture.specs.CompactLines.{compact_lines}
use Rattle.pg_picture.specs.Fits.{body_height}
use Rattle.pg_layout.specs.declared.sides.Indent.{Indent}
use Rattle.pg_layout.specs.declared.sides.Offset.{Offset}
use Rattle.pg_picture.specs.Plain.{cell_line}
use Rattle.pg_picture.proofs.Ranges.{range-more}
use Rattle.std.specs.Borrow.{Bor}
use Rattle.pg_stream.specs.Printing.{hint_of}
use Rattle.pg_layout.specs.declared.records.Records as records
use Rattle.pg_layout.specs.declared.dimension.Dimension as dimension
use Rattle.pg_layout.specs.declared.colors.Colors as colors
use Rattle.pg_iter.specs.declared.grid.IterGrid.{IterGrid}
use Rattle.pg_peekable.specs.declared.grid.PeekableGrid.{PeekableGrid}
use Rattle.pg_peekable.specs.Grids.{printed_table}
use Rattle.pg_iter.specs.IterGrids.{streamed}

-- ---- the picture as its lines: how they are joined, and how many there are

joined-with_byte : (lines : List Text) → joined lines ≡ join_with_byte 10 lines
unfolding joined
joined-with_byte [] = refl
joined-with_byte (x ∷ []) = append-nil x
joined-with_byte (x ∷ y ∷ lines) = ap (λ t. x ++ (10 ∷ t)) (joined-with_byte (y ∷ lines))

none-at : (m n : ℕ) → (m ≡ 0) ⊎ (n ≡ 0) → ((m == 0) || (n == 0)) ≡ true
none-at m n (inl e) = grind (arith, nat_tests, e)
none-at m n (inr e) = grind (arith, nat_tests, e)

some-at : (m n : ℕ) → 0 < m → 0 < n → ((m == 0) || (n == 0)) ≡ false
some-at m n h k = grind (arith, nat_tests, h, k)

pub nothing_to_draw : NothingToDraw
nothing_to_draw hint t none = picture-none hint t (none-at t.rows t.columns none)

pub nothing_compact_to_draw : NothingCompactToDraw
unfolding compact_picture
nothing_compact_to_draw t none = rw (none-at t.rows t.columns none) refl

pub lines_are_joined : LinesAreJoined
lines_are_joined hint t h k = picture-some hint t (some-at t.rows t.columns h k) ∙ joined-with_byte (picture_lines hint t)

pub compact_lines_are_joined : CompactLinesAreJoined
unfolding compact_picture
compact_lines_are_joined t h k = rw (some-at t.rows t.columns h k) (joined-with_byte (compact_lines t))

pub length-bottom : (t : Table) → length (bottom_lines t) ≡ t.config.margin.bottom.size
unfolding bottom_lines margin_lines
length-bottom t = length-replicate t.config.margin.bottom.size _

pub lines_are_counted : LinesAreCounted
unfolding picture_lines
lines_are_counted hint t =
    let body = body_lines hint t 0 (table_body t) in
    let all = length-append (top_lines t) (body ++ bottom_lines t) in
    let rest = length-append body (bottom_lines t) in
    let drawn : length body ≡ body_height t = length-body_lines hint t 0 (table_body t) ∙ length-table_body t in
    omega (arith, all, rest, drawn, length-top t, length-bottom t)

-- ---- cut at line feeds

joined-cut : (lines : List Text) → 0 < length lines → All IsOneLine lines → lines_of (join_with_byte 10 lines) ≡ lines
unfolding lines_of
joined-cut [] some one = absurd (omega arith)
joined-cut (x ∷ []) some one = slice_split_none (λ b. b == 10) x (All-head IsOneLine x [] one)
joined-cut (x ∷ y ∷ lines) some one =
    let feed : (10 == 10) ≡ true = grind (arith, nat_tests) in
    slice_split_at (λ b. b == 10) x 10 (join_with_byte 10 (y ∷ lines)) (All-head IsOneLine x (y ∷ lines) one) feed
    ∙ ap (λ l. x ∷ l) (joined-cut (y ∷ lines) (omega arith) (All-tail IsOneLine x (y ∷ lines) one))

pub lines_are_cut : LinesAreCut
lines_are_cut hint t h k some one = ap lines_of (lines_are_joined hint t h k) ∙ joined-cut (picture_lines hint t) some one

pub compact_lines_are_cut : CompactLinesAreCut
compact_lines_are_cut t h k some one = ap lines_of (compact_lines_are_joined t h k) ∙ joined-cut (compact_lines t) some one

-- ---- tables that were told little: without spans or without margins

-- ---- without spans

-- the parts of all columns, and that of the last line
parts-of : {A : Type 0} (f g : ℕ → List A) (n : ℕ) (last : List A) → ((x : ℕ) → x < n → f x ≡ g x) → f n ≡ last → flat_map f (range_with_len 0 (n + 1)) ≡ flat_map g (range_with_len 0 n) ++ last
parts-of {A} f g n last h e =
    range-more f 0 n
    ∙ ap₂ (λ (xs ys : List A). xs ++ ys) (flat_map-same f g 0 n (λ x l m. h x (omega arith))) (ap f (zero-add n) ∙ e)

pub plain_rows : PlainRows
unfolding line_of_row
plain_rows t r i none h k = parts-of (row_part t r i) (λ x. vertical t r i x ++ cell_line t r x i) t.columns (vertical t r i t.columns) (λ x l. row_part_plain t none r i x h k l) (row_part_plain_end t none r i)

pub plain_separators : PlainSeparators
unfolding separator_items separator_part
plain_separators t r none =
    parts-of (separator_part t r) (λ x. crossing_at t.config t.rows t.columns (at r x) ++ horizontal_items t r x (get_horizontal t.config (at r x) t.rows)) t.columns (crossing_at t.config t.rows t.columns (at r t.columns))
    (λ x l. rw (crossing_plain t none r x, column_items_plain t none r x l) refl)
    (separator_part_end t r)

-- ---- without margins

side_margin-none : (hint : Hint) (indent : Indent) (offset : Offset) (color : Option Color) (i h : ℕ) → indent.size ≡ 0 → written (side_margin hint indent offset color i h) ≡ []
unfolding side_margin fill written
side_margin-none hint indent offset color i h none = elim (cases_Bool (is_blank_at hint offset i h)) [ inl y ↦ rw (y, none) refl | inr n ↦ rw (n, none) refl ]

body_line-alone : (hint : Hint) (t : Table) (h i : ℕ) (mark : Mark) → HasNoMargins t → body_line hint t h (i, mark) ≡ mark_text t mark
unfolding body_line
body_line-alone hint t h i mark none =
    ap₂ (λ (left right : Text). left ++ (mark_text t mark ++ right))
    (side_margin-none hint t.config.margin.left t.config.margin_offset.left t.config.margin_color.left i h none.left)
    (side_margin-none hint t.config.margin.right t.config.margin_offset.right t.config.margin_color.right i h none.right)
    ∙ append-nil (mark_text t mark)

map-numbered : {X Y : Type 0} (f : ℕ × X → Y) (g : X → Y) (i : ℕ) (xs : List X) → ((k : ℕ) (x : X) → f (k, x) ≡ g x) → map f (enumerate_from i xs) ≡ map g xs
map-numbered f g i [] h = refl
map-numbered {X} {Y} f g i (x ∷ xs) h = ap₂ (λ (y : Y) (ys : List Y). y ∷ ys) (h i x) (map-numbered f g (i + 1) xs h)

empty : {X : Type 0} (xs : List X) → length xs ≡ 0 → xs ≡ []
empty [] h = refl
empty (x ∷ xs) h = absurd (omega arith)

body_lines-alone : (hint : Hint) (t : Table) → HasNoMargins t → body_lines hint t 0 (table_body t) ≡ map (mark_text t) (table_body t)
unfolding body_lines
body_lines-alone hint t none = map-numbered (body_line hint t (length (table_body t))) (mark_text t) 0 (table_body t) (λ i mark. body_line-alone hint t (length (table_body t)) i mark none)

pub bodies_stand_alone : BodiesStandAlone
unfolding picture_lines
bodies_stand_alone hint t h k none =
    let top : top_lines t ≡ [] = empty (top_lines t) (length-top t ∙ none.top) in
    let bottom : bottom_lines t ≡ [] = empty (bottom_lines t) (length-bottom t ∙ none.bottom) in
    lines_are_joined hint t h k
    ∙ ap₂ (λ (xs ys : List Text). join_with_byte 10 (xs ++ (body_lines hint t 0 (table_body t) ++ ys))) top bottom
    ∙ ap (λ lines. join_with_byte 10 lines) (append-nil (body_lines hint t 0 (table_body t)) ∙ body_lines-alone hint t none)

-- ---- the streamed and the looked-up text of the same parts

-- the hint matters to no margin
hint-idle : (t : Table) (hint : Option ℕ) → KnowsMargins t hint → picture (hint_of hint) t ≡ picture Known t
hint-idle t (Some rows) knows = refl
hint-idle t None (inl none) = absurd (false≢true none)
hint-idle t None (inr starts) = hints_are_idle t starts.0 starts.1

module _ {R Cell Columns Rows D C Color : Type 0} (records : records.Ghosts R Cell Columns Rows) (dimension : dimension.Ghosts D) (colors : colors.Ghosts C Color) where
  -- grids of the same parts have the same table
  same-table : (streaming : IterGrid R D (Bor Config) C) (looking : PeekableGrid R (Bor Config) D C) → HaveSameParts streaming looking → streamed records dimension colors streaming ≡ printed_table records dimension colors looking
  same-table streaming looking same = rw (same.records, same.config, same.dimension, same.colors) refl

  pub texts_are_one : TextsAreOne records dimension colors
  texts_are_one streaming looking same knows =
      hint-idle (streamed records dimension colors streaming) (records.hint streaming.records) knows
      ∙ ap (λ t. picture Known t) (same-table streaming looking same)

-- heights and lines of a body
pub ruleset heights = (rect_height-of_rect, length-table_body)

-- lines are joined by one line feed, at which the picture is cut
pub ruleset joined_lines = (lines_are_joined, compact_lines_are_joined, lines_are_cut, compact_lines_are_cut)

-- ---- a shown cell is drawn in each line of its rectangle, and these lines stand together

-- ---- the lines of a rectangle

All-filtered : {X : Type 0} (P : X → Type 0) (test : X → Bool) (xs : List X) → All (λ x. test x ≡ true → P x) xs → All P (filter test xs)
All-filtered P test [] h = All-nil P
All-filtered P test (x ∷ xs) h =
    let rest = All-filtered P test xs (All-tail (λ y. test y ≡ true → P y) x xs h) in
    elim (cases_Bool (test x)) [ inl y ↦ rw y (All-cons P x (filter test xs) (All-head (λ z. test z ≡ true → P z) x xs h y) rest) | inr n ↦ rw n rest ]

module _ (t : Table) (owners : HasOwners t.config.spans) (p : Position) (own : owner t.config.spans p.row p.col ≡ p) (inside : RectInside t.config.spans t.rows t.columns p) where
  -- p owns the places of its rectangle
  owns : (r c : ℕ) → p.row ≤ r → r < p.row + rect_rows t.config.spans p → p.col ≤ c → c < p.col + rect_columns t.config.spans p → owner t.config.spans r c ≡ p
  owns r c h k l m = own-at own
    where
      own-at : owner t.config.spans p.row p.col ≡ p → owner t.config.spans r c ≡ p
      own-at e =
          let row : (owner t.config.spans p.row p.col).row ≡ p.row = ap (λ (q : Position). q.row) e in
          let col : (owner t.config.spans p.row p.col).col ≡ p.col = ap (λ (q : Position). q.col) e in
          let rows : rect_rows t.config.spans (owner t.config.spans p.row p.col) ≡ rect_rows t.config.spans p = ap (rect_rows t.config.spans) e in
          let columns : rect_columns t.config.spans (owner t.config.spans p.row p.col) ≡ rect_columns t.config.spans p = ap (rect_columns t.config.spans) e in
          owners.whole p.row p.col r c (record { below = omega (arith, row, h); above = omega (arith, row, rows, k); right = omega (arith, col, l); left = omega (arith, col, columns, m) }) ∙ e

  -- its first column begins it
  first-left : (r : ℕ) → p.row ≤ r → r < p.row + rect_rows t.config.spans p → is_left t.config.spans r p.col ≡ true
  unfolding is_left
  first-left r h k = rw (owns r p.col h k (omega arith) (omega (arith, inside.some_columns))) (grind (arith, nat_tests))

  first-out : (r : ℕ) → p.row ≤ r → r < p.row + rect_rows t.config.spans p → is_inside t r p.col ≡ false
  unfolding is_inside same_owner
  first-out r h k =
      let this = owns r p.col h k (omega arith) (omega (arith, inside.some_columns)) in
      let near = owners.near r (p.col - 1) in
      elim (cases_Bool (nat_lt 0 p.col)) [
        | inl y ↦
            let right : (owner t.config.spans r (p.col - 1)).col ≤ p.col - 1 = near.right in
            let other : is_at (owner t.config.spans r (p.col - 1)) p.row p.col ≡ false = grind (arith, nat_tests, right, y) in
            let apart : is_at (owner t.config.spans r (p.col - 1)) (owner t.config.spans r p.col).row (owner t.config.spans r p.col).col ≡ false = rw this other in
            rw apart (grind (arith, nat_tests))
        | inr n ↦ rw n refl
      ]

  -- and its other columns don't
  inner-left : (r c : ℕ) → p.row ≤ r → r < p.row + rect_rows t.config.spans p → p.col < c → c < p.col + rect_columns t.config.spans p → is_left t.config.spans r c ≡ false
  unfolding is_left
  inner-left r c h k l m = rw (owns r c h k (omega (arith, l)) m) (grind (arith, nat_tests, l))

  inner-in : (r c : ℕ) → p.row ≤ r → r < p.row + rect_rows t.config.spans p → p.col < c → c < p.col + rect_columns t.config.spans p → is_inside t r c ≡ true
  unfolding is_inside same_owner
  inner-in r c h k l m =
      let this = owns r c h k (omega (arith, l)) m in
      let before = owns r (c - 1) h k (omega (arith, l)) (omega (arith, l, m)) in
      let both : (nat_lt 0 c && nat_lt c t.columns) ≡ true = grind (arith, nat_tests, l, m, inside.columns_end) in
      rw (both, this, before) (grind (arith, nat_tests))

  above : (r c : ℕ) → p.row < r → r < p.row + rect_rows t.config.spans p → p.col ≤ c → c < p.col + rect_columns t.config.spans p → is_covered t r c ≡ true
  unfolding is_covered begins_above
  above r c h k l m = rw (owns r c (omega (arith, h)) k l m) (grind (arith, nat_tests, h, k, m, inside.rows_end, inside.columns_end))

  two : (r c : ℕ) → crossing t r c ≡ [] → column_items t r c ≡ [] → separator_part t r c ≡ []
  unfolding separator_part
  two r c a b = rw (a, b) refl

  drawn : (mark : Mark) → stands_within p.row (p.row + rect_rows t.config.spans p) mark ≡ true → IsDrawn t p mark
  drawn (line r i) stands =
      let h : p.row ≤ r = grind (arith, nat_tests, stands) in
      let k : r < p.row + rect_rows t.config.spans p = grind (arith, nat_tests, stands) in
      let this = owns r p.col h k (omega arith) (omega (arith, inside.some_columns)) in (
        row-begins t r i p.col (omega (arith, inside.some_columns, inside.columns_end)) (first-out r h k) (first-left r h k) ∙ ap (λ q. vertical t r i p.col ++ block_at t q (line r i)) this,
        λ c l m. row-inside t r i c (omega (arith, m, inside.columns_end)) (inner-in r c h k l m) (inner-left r c h k l m),
      )
  drawn (sep r) stands =
      let h : p.row < r = grind (arith, nat_tests, stands) in
      let k : r < p.row + rect_rows t.config.spans p = grind (arith, nat_tests, stands) in
      let le : p.row ≤ r = omega (arith, h) in
      let this = owns r p.col le k (omega arith) (omega (arith, inside.some_columns)) in (
        column-begins t r p.col (above r p.col h k (omega arith) (omega (arith, inside.some_columns))) (first-left r le k) ∙ ap (λ q. block (block_at t q (sep r)) ∷ []) this,
        λ c l m.
            let covered = above r c h k (omega (arith, l)) m in
            two r c (no-crossing t r c (inner-in r c le k l m) covered) (column-inside t r c covered (inner-left r c le k l m)),
      )

pub shown_cells_are_drawn : ShownCellsAreDrawn
unfolding rect_marks marks_within
shown_cells_are_drawn t fit p o =
    let owners : HasOwners t.config.spans = owners_of t.config.spans (apart_from t.config.spans t.columns (fits-columns t.config.spans t.rows t.columns fit)) in
    let inside = rect_inside t.config.spans t.rows t.columns p fit o.row o.column in
    let test : Mark → Bool = stands_within p.row (p.row + rect_rows t.config.spans p) in
    let one : (mark : Mark) → test mark ≡ true → IsDrawn t p mark = drawn t owners p (is_at-same (owner t.config.spans p.row p.col) p o.own) inside in
    All-filtered (IsDrawn t p) test (body t.config t.height t.rows)
    (All-body (λ mark. test mark ≡ true → IsDrawn t p mark) t.config t.height t.rows (λ r i h k. one (line r i)) (λ r h there. one (sep r)))

-- ---- marks that stand together

module _ (config : Config) (height : ℕ → ℕ) where
  -- the rows of a rectangle, after the separator above them
  rows-of : (a k : ℕ) → marks_above config height (suc a + k) ≡ (marks_above config height a ++ only_if (has_horizontal config a (a + 1)) (sep a)) ++ run_of config height a k
  unfolding run_of row_lines marks_of_row marks_above
  rows-of a k =
      let separator : List Mark = only_if (has_horizontal config a (a + 1)) (sep a) in
      let lines : List Mark = map (line a) (range_with_len 0 (height a)) in
      marks_above-add config height (suc a) k
      ∙ ap (λ l. l ++ rows_from config height (suc a) k) (sym (append_assoc (marks_above config height a) separator lines))
      ∙ append_assoc (marks_above config height a ++ separator) lines (rows_from config height (suc a) k)

  together : (a k rows : ℕ) → a + suc k ≤ rows → StandTogether (marks_within config height rows a (a + suc k)) (body config height rows)
  unfolding body
  together a k rows h =
      let separator : List Mark = only_if (has_horizontal config a (a + 1)) (sep a) in
      let last : List Mark = only_if (has_horizontal config rows rows) (sep rows) in
      let rest : List Mark = rows_from config height (suc a + k) (rows - (suc a + k)) in
      let all : rows ≡ (suc a + k) + (rows - (suc a + k)) = omega (arith, h) in
      let front : List Mark = marks_above config height a ++ separator in
      let run : List Mark = run_of config height a k in
      let above_all : marks_above config height rows ≡ (front ++ run) ++ rest =
      ap (λ n. marks_above config height n) all ∙ marks_above-add config height (suc a + k) (rows - (suc a + k)) ∙ ap (λ l. l ++ rows_from config height (suc a + k) (rows - (suc a + k))) (rows-of a k) in
      record {
        before = front;
        after = rest ++ last;
        is = ap (λ l. l ++ last) above_all ∙ append_assoc (front ++ run) rest last ∙ append_assoc front run (rest ++ last)
            ∙ ap (λ l. front ++ (l ++ (rest ++ last))) (sym (marks_within-run config height a k rows h));
      }

pub rectangles_stand_together : RectanglesStandTogether
unfolding rect_marks table_body
rectangles_stand_together t p some inside =
    let e : suc (rect_rows t.config.spans p - 1) ≡ rect_rows t.config.spans p = omega (arith, some) in
    subst (λ n. StandTogether (marks_within t.config t.height t.rows p.row (p.row + n)) (body t.config t.height t.rows)) e (together t.config t.height p.row (rect_rows t.config.spans p - 1) t.rows (omega (arith, some, inside)))

-- ---- the marks of a rectangle are all different, so they draw each line of its block once

-- no mark of the list stands before it already, nor among those before the list
AllNew : List Mark → List Mark → Type 0
AllNew before [] = Unit {0}
AllNew before (m ∷ ms) = NonePasses (same_mark m) before × AllNew (before ++ m ∷ []) ms

AllNew-append : (before xs ys : List Mark) → AllNew before xs → AllNew (before ++ xs) ys → AllNew before (xs ++ ys)
unfolding AllNew
AllNew-append before [] ys h k = subst (λ l. AllNew l ys) (append-nil before) k
AllNew-append before (x ∷ xs) ys h k = (h.0, AllNew-append (before ++ x ∷ []) xs ys h.1 (subst (λ l. AllNew l ys) (sym (append_assoc before (x ∷ []) xs)) k))

NonePasses-filter : (e p : Mark → Bool) (xs : List Mark) → NonePasses e xs → NonePasses e (filter p xs)
NonePasses-filter e p [] h = tt
NonePasses-filter e p (x ∷ xs) h = elim (cases_Bool (p x)) [ inl y ↦ rw y (h.0, NonePasses-filter e p xs h.1) | inr n ↦ rw n (NonePasses-filter e p xs h.1) ]

AllNew-filter : (p : Mark → Bool) (before xs : List Mark) → AllNew before xs → AllNew (filter p before) (filter p xs)
unfolding AllNew
AllNew-filter p before [] h = tt
AllNew-filter p before (x ∷ xs) h =
    let more = filter-append p before (x ∷ []) in
    let rest = AllNew-filter p (before ++ x ∷ []) xs h.1 in
    elim (cases_Bool (p x)) [
      | inl y ↦ rw y (NonePasses-filter (same_mark x) p before h.0, subst (λ l. AllNew l (filter p xs)) (more ∙ ap (λ l. filter p before ++ l) (rw y refl)) rest)
      | inr n ↦ rw n (subst (λ l. AllNew l (filter p xs)) (more ∙ ap (λ l. filter p before ++ l) (rw n refl) ∙ append-nil (filter p before)) rest)
    ]

-- the lines of a row from line a on, where none of them stands before
lines-new : (before : List Mark) (r a k : ℕ) → ((i : ℕ) → a ≤ i → NonePasses (same_mark (line r i)) before) → AllNew before (map (line r) (range_with_len a k))
unfolding AllNew
lines-new before r a zero h = tt
lines-new before r a (suc k) h = (
  h a (omega arith),
  lines-new (before ++ line r a ∷ []) r (a + 1) k (λ i l. NonePasses-append (same_mark (line r i)) before (line r a ∷ []) (h i (omega arith)) (grind (arith, nat_tests), tt)),
)

sep-new : (before : List Mark) (b : Bool) (r : ℕ) → NonePasses (same_mark (sep r)) before → AllNew before (only_if b (sep r))
unfolding AllNew
sep-new before true r h = (h, tt)
sep-new before false r h = tt

module _ (config : Config) (height : ℕ → ℕ) where
  sep_not_above : (r s : ℕ) → s ≤ r → NonePasses (same_mark (sep r)) (marks_above config height s)
  unfolding marks_above marks_of_row
  sep_not_above r zero h = tt
  sep_not_above r (suc s) h =
      NonePasses-append (same_mark (sep r)) (marks_above config height s) (marks_of_row config height s) (sep_not_above r s (omega arith))
      (NonePasses-append (same_mark (sep r)) (only_if (has_horizontal config s (s + 1)) (sep s)) (map (line s) (range_with_len 0 (height s)))
      (none_sep (sep r) _ s (grind (arith, nat_tests))) (sep_lines r s 0 (height s)))

  row-new : (r : ℕ) → AllNew (marks_above config height r) (marks_of_row config height r)
  unfolding marks_of_row
  row-new r =
      let separator = only_if (has_horizontal config r (r + 1)) (sep r) in
      AllNew-append (marks_above config height r) separator (map (line r) (range_with_len 0 (height r)))
      (sep-new (marks_above config height r) (has_horizontal config r (r + 1)) r (sep_not_above r r (omega arith)))
      (lines-new (marks_above config height r ++ separator) r 0 (height r)
      (λ i l. NonePasses-append (same_mark (line r i)) (marks_above config height r) separator (line_not_above config height r i r (omega arith)) (none_sep (line r i) _ r refl)))

  above-new : (r : ℕ) → AllNew [] (marks_above config height r)
  unfolding marks_above AllNew
  above-new zero = tt
  above-new (suc r) = AllNew-append [] (marks_above config height r) (marks_of_row config height r) (above-new r) (row-new r)

  -- no mark stands twice in a body
  body-new : (rows : ℕ) → AllNew [] (body config height rows)
  unfolding body
  body-new rows =
      AllNew-append [] (marks_above config height rows) (only_if (has_horizontal config rows rows) (sep rows)) (above-new rows)
      (sep-new (marks_above config height rows) (has_horizontal config rows rows) rows (sep_not_above rows rows (omega arith)))

same_mark-same : (m : Mark) → same_mark m m ≡ true
same_mark-same (sep r) = grind (arith, nat_tests)
same_mark-same (line r i) = grind (arith, nat_tests)

-- a mark stands after those before it
place_of-new : (m : Mark) (before after : List Mark) → NonePasses (same_mark m) before → place_of m (before ++ m ∷ after) ≡ length before
unfolding place_of
place_of-new m [] after h = rw (same_mark-same m) refl
place_of-new m (x ∷ before) after h = rw h.0 (rw one-add (ap suc (place_of-new m before after h.1)))

places-new : (before ms : List Mark) → AllNew before ms → map (λ m. place_of m (before ++ ms)) ms ≡ range_with_len (length before) (length ms)
unfolding AllNew
places-new before [] h = refl
places-new before (m ∷ ms) h =
    let all : (before ++ m ∷ []) ++ ms ≡ before ++ m ∷ ms = append_assoc before (m ∷ []) ms in
    let more : length (before ++ m ∷ []) ≡ length before + 1 = length-append before (m ∷ []) in
    ap₂ (λ (n : ℕ) (ns : List ℕ). n ∷ ns) (place_of-new m before ms h.0)
    (ap (λ l. map (λ x. place_of x l) ms) (sym all) ∙ places-new (before ++ m ∷ []) ms h.1 ∙ ap (λ n. range_with_len n (length ms)) more)

-- the places of a rectangle's marks are the numbers from 0 on
places-rect : (t : Table) (p : Position) → map (λ m. place_of m (rect_marks t p)) (rect_marks t p) ≡ range_with_len 0 (rect_height t p)
unfolding rect_height rect_marks marks_within
places-rect t p =
    places-new [] (filter (stands_within p.row (p.row + rect_rows t.config.spans p)) (body t.config t.height t.rows))
    (AllNew-filter (stands_within p.row (p.row + rect_rows t.config.spans p)) [] (body t.config t.height t.rows) (body-new t.config t.height t.rows))

pub blocks_are_drawn : BlocksAreDrawn
unfolding block_at
blocks_are_drawn t p =
    let at_place : ℕ → List Piece = block_line (style_at t.config p) (t.color p) (t.text p) (rect_width t p) (rect_height t p) in
    sym (map-map at_place (λ m. place_of m (rect_marks t p)) (rect_marks t p)) ∙ ap (λ l. map at_place l) (places-rect t p)

pub blocks_fill : BlocksFill
blocks_fill t p narrow fits =
    let lines : ℕ → List Piece = block_line (style_at t.config p) (t.color p) (t.text p) (rect_width t p) (rect_height t p) in
    let wide : List Piece → Type 0 = λ pieces. pieces_width pieces ≡ rect_width t p in
    record {
      high = unfold rect_height in length-map (rect_marks t p) (block_at t p);
      wide = All-same wide (map (block_at t p) (rect_marks t p)) (block_of t p) (blocks_are_drawn t p)
          (All-map wide lines (range_with_len 0 (rect_height t p)) (λ k d l. block_line-width (style_at t.config p) (t.color p) (rect_width t p) narrow (t.text p) (rect_height t p) (slice_index_or (range_with_len 0 (rect_height t p)) k d) fits));
    }

-- ---- where nothing is free below a text, its vertical alignment changes nothing

-- ---- a cell

-- nothing stands above a text that takes all lines
above-full : (down : AlignmentVertical) (count free : ℕ) → free ≤ count → lines_above down free (min count free) ≡ 0
above-full down count free full = let all : min count free ≡ free = omega arith in ap (lines_above down free) all ∙ lines_above-none down free

block_line-full : (style : Style) (down : AlignmentVertical) (color : Option Color) (text : Text) (w h i : ℕ) → h - style.padding.top.size ≤ length (shown style.formatting text)
    → block_line (record style { down = down }) color text w h i ≡ block_line style color text w h i
unfolding block_line text_top text_height text_line left_share inner_width
block_line-full style down color text w h i full =
    rw (above-full down (length (shown style.formatting text)) (h - style.padding.top.size) full, above-full style.down (length (shown style.formatting text)) (h - style.padding.top.size) full) refl

-- an owner stands at or before its places
owner-before : (spans : List Span) (r c : ℕ) → ((owner spans r c).row ≤ r) × ((owner spans r c).col ≤ c)
unfolding owner
owner-before [] r c = (omega arith, omega arith)
owner-before (s ∷ ss) r c = elim (cases_Bool (in_span r c s)) [ inl y ↦ rw y (grind (arith, nat_tests), grind (arith, nat_tests)) | inr n ↦ rw n (owner-before ss r c) ]

if-same : {A : Type 0} (b : Bool) {x y : A} (z : A) → (b ≡ true → x ≡ y) → cond b x z ≡ cond b y z
if-same true z same = same refl
if-same false z same = refl

-- ---- a table with other alignments

module _ (down : Settings AlignmentVertical) (t : Table) where
  style-aligned : (p : Position) → style_at (aligned_down down t).config p ≡ record (style_at t.config p) { down = get_alignment_vertical (aligned_down down t).config p }
  unfolding style_at get_padding get_padding_color get_alignment_horizontal get_formatting get_justification get_justification_color
  style-aligned p = refl

  body-aligned : body (aligned_down down t).config t.height t.rows ≡ body t.config t.height t.rows
  unfolding has_horizontal
  body-aligned = body-same (aligned_down down t).config t.config t.height (λ r n. refl) t.rows

  rect_marks-aligned : (p : Position) → rect_marks (aligned_down down t) p ≡ rect_marks t p
  unfolding rect_marks marks_within
  rect_marks-aligned p = ap (λ l. filter (stands_within p.row (p.row + rect_rows t.config.spans p)) l) body-aligned

  rect_width-aligned : (p : Position) → rect_width (aligned_down down t) p ≡ rect_width t p
  unfolding rect_width has_vertical
  rect_width-aligned p = refl

  block_at-aligned : (p : Position) (mark : Mark) → IsFull t p → block_at (aligned_down down t) p mark ≡ block_at t p mark
  unfolding block_at rect_height style_at
  block_at-aligned p mark full =
      let moved : Style = record (style_at t.config p) { down = get_alignment_vertical (aligned_down down t).config p } in
      let line_of : Style → ℕ → ℕ → ℕ → List Piece = λ style w h i. block_line style (t.color p) (t.text p) w h i in
      ap (λ l. line_of (style_at (aligned_down down t).config p) (rect_width (aligned_down down t) p) (length l) (place_of mark l)) (rect_marks-aligned p)
      ∙ ap₂ (λ style w. line_of style w (length (rect_marks t p)) (place_of mark (rect_marks t p))) (style-aligned p) (rect_width-aligned p)
      ∙ block_line-full (style_at t.config p) (get_alignment_vertical (aligned_down down t).config p) (t.color p) (t.text p) (rect_width t p) (length (rect_marks t p)) (place_of mark (rect_marks t p)) full

  module _ (full : (r c : ℕ) → r < t.rows → c < t.columns → IsFull t (at r c)) where
    owner-full : (r c : ℕ) → r < t.rows → c < t.columns → IsFull t (owner t.config.spans r c)
    owner-full r c h k = let before = owner-before t.config.spans r c in full (owner t.config.spans r c).row (owner t.config.spans r c).col (omega (arith, before.0)) (omega (arith, before.1))

    row_part-aligned : (r i x : ℕ) → r < t.rows → row_part (aligned_down down t) r i x ≡ row_part t r i x
    unfolding row_part is_inside vertical_at get_vertical get_vertical_color has_vertical
    row_part-aligned r i x h =
        let own : Position = owner t.config.spans r x in
        ap (λ l. (cond (is_inside t r x) [] (vertical_at t.config t.columns (t.height r) (at r x) i)) ++ l)
        (if-same (nat_lt x t.columns && is_left t.config.spans r x) [] (λ here. block_at-aligned own (line r i) (owner-full r x h (let inside = (and_parts (nat_lt x t.columns) (is_left t.config.spans r x) here).0 in grind (arith, nat_tests, inside)))))

    column_items-aligned : (r x : ℕ) → column_items (aligned_down down t) r x ≡ column_items t r x
    unfolding column_items is_covered get_horizontal get_horizontal_color has_horizontal
    column_items-aligned r x =
        let own : Position = owner t.config.spans r x in
        if-same (is_covered t r x) _
        (λ covered.
        let inside = (and_parts (nat_lt r t.rows && nat_lt x t.columns) (begins_above t.config.spans r x) covered).0 in
        ap (λ l. only_if (is_left t.config.spans r x) (block l)) (block_at-aligned own (sep r) (owner-full r x (grind (arith, nat_tests, inside)) (grind (arith, nat_tests, inside)))))

    separator_part-aligned : (r x : ℕ) → separator_part (aligned_down down t) r x ≡ separator_part t r x
    unfolding separator_part crossing crossing_at is_inside is_covered get_intersection get_intersection_color has_horizontal has_vertical
    separator_part-aligned r x = ap (λ l. crossing t r x ++ l) (column_items-aligned r x)

    mark_text-line : (r i : ℕ) → r < t.rows → mark_text (aligned_down down t) (line r i) ≡ mark_text t (line r i)
    unfolding mark_text line_of_row
    mark_text-line r i h = ap (λ part. written (flat_map part (range_with_len 0 (t.columns + 1)))) (fun_ext (λ x. row_part-aligned r i x h))

    mark_text-sep : (r : ℕ) → mark_text (aligned_down down t) (sep r) ≡ mark_text t (sep r)
    unfolding mark_text separator_items
    mark_text-sep r = ap (λ part. separator_text (flat_map part (range_with_len 0 (t.columns + 1)))) (fun_ext (λ x. separator_part-aligned r x))

    body_line-aligned : (hint : Hint) (h i : ℕ) (mark : Mark) → mark_text (aligned_down down t) mark ≡ mark_text t mark → body_line hint (aligned_down down t) h (i, mark) ≡ body_line hint t h (i, mark)
    unfolding body_line
    body_line-aligned hint h i mark same =
        let c = t.config in
        ap (λ (text : Text). written (side_margin hint c.margin.left c.margin_offset.left c.margin_color.left i h) ++ (text ++ written (side_margin hint c.margin.right c.margin_offset.right c.margin_color.right i h))) same

    body_lines-aligned : (hint : Hint) → body_lines hint (aligned_down down t) 0 (table_body (aligned_down down t)) ≡ body_lines hint t 0 (table_body t)
    unfolding body_lines table_body
    body_lines-aligned hint =
        let marks : List Mark = body t.config t.height t.rows in
        let n : ℕ = length marks in
        let Same : Mark → Type 0 = λ mark. mark_text (aligned_down down t) mark ≡ mark_text t mark in
        ap (λ l. map (body_line hint (aligned_down down t) (length l)) (enumerate_from 0 l)) body-aligned
        ∙ map-same (body_line hint (aligned_down down t) n) (body_line hint t n) (enumerate_from 0 marks)
        (All-weaker (λ (e : ℕ × Mark). Same e.1) (λ e. body_line hint (aligned_down down t) n e ≡ body_line hint t n e) (λ e same. body_line-aligned hint n e.0 e.1 same) (enumerate_from 0 marks)
        (All-enumerate_from Same 0 marks (All-body Same t.config t.height t.rows (λ r i h k. mark_text-line r i h) (λ r h there. mark_text-sep r))))

    picture-aligned : (hint : Hint) → picture hint (aligned_down down t) ≡ picture hint t
    unfolding picture picture_lines top_lines bottom_lines margin_lines full_width total_width count_vertical has_vertical
    picture-aligned hint = ap (λ lines. cond ((t.rows == 0) || (t.columns == 0)) [] (joined (top_lines t ++ (lines ++ bottom_lines t)))) (body_lines-aligned hint)

pub full_cells_ignore_alignment : FullCellsIgnoreAlignment
full_cells_ignore_alignment hint t down full = picture-aligned down t full hint

-- ---- rows of one line

-- without row spans a rectangle has one row
one_row : (spans : List Span) (k : ColumnPlace) → has_row_spans spans ≡ false → (unwrap_or (value_at by_columns k spans) (span_size 1 1)).rows ≡ 1
unfolding has_row_spans
one_row [] k none = refl
one_row (s ∷ ss) k none =
    let parts = or_parts (not (s.1.rows == 1)) (list_any (λ (u : Span). not (u.1.rows == 1)) ss) none in
    elim (cases_Bool (same by_columns s.0 k)) [ inl y ↦ rw y (grind (arith, nat_tests, parts.0)) | inr n ↦ rw n (one_row ss k parts.1) ]

single_lines-full : (t : Table) → HasSingleLines t → (r c : ℕ) → r < t.rows → c < t.columns → IsFull t (at r c)
unfolding rect_rows size_of
single_lines-full t single r c h k =
    omega (
      arith,
      rect_height-one_row t (at r c) (one_row t.config.spans (column_place (at r c)) single.spans) h,
      single.heights r h,
      length-shown (get_formatting t.config (at r c)) (t.text (at r c)) (single.trims r c h k),
      single.texts r c h k,
    )

pub single_lines_ignore_alignment : SingleLinesIgnoreAlignment
single_lines_ignore_alignment hint t down single = picture-aligned down t (single_lines-full t single) hint
