-- Where no cell spans rows, a row reads the height of no other one.
use Rattle.std.proofs.Common.{◌≡◌, ℕ, ◌+◌, ◌<◌, ◌≤◌, Bool, true, false, not, ◌==◌, List, [], ◌∷◌, ◌++◌, map, flat_map, length, replicate, refl, sym, ap, ap₂, ◌∙◌, arith, None, unwrap_or, inl, inr}
use mathlib.Core.Path.{fun_ext}
use Rattle.std.specs.List.{range_with_len, enumerate_from, list_any}
use Rattle.std.proofs.lemmas.Bool.{cases_Bool, or_parts}
use Rattle.std.proofs.lemmas.Bool.Decides.{nat_tests}
use Rattle.pg_layout.specs.declared.position.ColumnPlace.{ColumnPlace}
use Rattle.pg_layout.specs.declared.position.Position.{Position}
use Rattle.pg_layout.specs.Keys.{by_columns, column_place}
use Rattle.pg_layout.specs.Places.{same, value_at}
use Rattle.pg_layout.specs.Text.{Text}
use Rattle.pg_config.specs.Config.{has_horizontal}
use Rattle.pg_config.specs.Spans.{Span, has_row_spans, size_of, span_size, rect_rows, owner, begins_above}
use Rattle.pg_picture.specs.Marks.{Mark, sep, line, only_if, marks_of_row}
use Rattle.pg_picture.specs.Pieces.{Item, written, separator_text}
use Rattle.pg_picture.specs.Sizes.{height_of_rect}
use Rattle.pg_picture.specs.Table.{Table, Unknown, rect_marks, rect_height, rect_width, block_at, row_part, line_of_row, is_inside, separator_part, separator_items, column_items, crossing, is_covered, side_margin, mark_text, body_line}
use Rattle.pg_picture.proofs.MarksOfRectangles.{run_of, row_lines, rows_from, marks_within-run}
use Rattle.pg_picture.proofs.Owners.{Apart, owners_of}
use Rattle.pg_stream.specs.Open.{drawn_before, open_at_row, open_before}
use Rattle.pg_stream.proofs.DrawnLines.{drawn-first}
use Rattle.pg_stream.proofs.printer.RowsOfTables.{SameHeight, AllSame, blank_same}
use Rattle.pg_stream.proofs.draw.Steps.{open_none}
use Rattle.pg_stream.proofs.printer.WholePictures.{map_range-same, no_slots}

-- ---- rectangles of one row

one-row : (spans : List Span) (k : ColumnPlace) → has_row_spans spans ≡ false → (unwrap_or (value_at by_columns k spans) (span_size 1 1)).rows ≡ 1
unfolding has_row_spans
one-row [] k none = refl
one-row (s ∷ ss) k none =
    let parts = or_parts (not (s.1.rows == 1)) (list_any (λ (u : Span). not (u.1.rows == 1)) ss) none in
    elim (cases_Bool (same by_columns s.0 k)) [ inl y ↦ rw y (grind (arith, nat_tests, parts.0)) | inr n ↦ rw n (one-row ss k parts.1) ]

pub rect_rows-one : (spans : List Span) → has_row_spans spans ≡ false → (p : Position) → rect_rows spans p ≡ 1
unfolding rect_rows size_of
rect_rows-one spans alone p = one-row spans (column_place p) alone

pub owner-row : (spans : List Span) → Apart spans → has_row_spans spans ≡ false → (r c : ℕ) → (owner spans r c).row ≡ r
owner-row spans apart alone r c =
    let n = (owners_of spans apart).near r c in
    let one = rect_rows-one spans alone (owner spans r c) in
    omega (arith, n.below, n.above, one)

-- ---- a table in which no cell spans rows

module _ (t : Table) (apart : Apart t.config.spans) (alone : has_row_spans t.config.spans ≡ false) where
  -- no cell is open between two rows
  pub none-between : (k : ℕ) → open_before t k ≡ replicate t.columns None
  unfolding open_before
  none-between k =
      map_range-same (open_at_row t k) (λ c. None) 0 t.columns (λ c a b. open_none t k c (λ above left. let row = owner-row t.config.spans apart alone k c in omega (arith, row, above)))
      ∙ no_slots 0 t.columns

  -- a rectangle is as high as its row
  pub height-one_row : (p : Position) → height_of_rect t.config t.height p ≡ t.height p.row
  unfolding height_of_rect drawn_before
  height-one_row p = let one = rect_rows-one t.config.spans alone p in let e = drawn-first t.config t.height p.row p refl (omega (arith, one)) in rw one (rw one at e)

  uncovered : (r x : ℕ) → is_covered t r x ≡ false
  unfolding is_covered begins_above
  uncovered r x = let row = owner-row t.config.spans apart alone r x in grind (arith, nat_tests, row)

  -- ---- the same with other heights

  module _ (heights : ℕ → ℕ) where
    abbrev pub resized : Table
    resized = record t { height = heights }

    pub sep-resized : (r : ℕ) → mark_text t (sep r) ≡ mark_text resized (sep r)
    unfolding mark_text separator_items separator_part crossing column_items is_covered is_inside
    sep-resized r =
        ap (λ (part : ℕ → List Item). separator_text (flat_map part (range_with_len 0 (t.columns + 1))))
        (fun_ext (λ x. rw (uncovered r x) refl))

    module _ (k : ℕ) (below : k < t.rows) (same : t.height k ≡ heights k) where
      marks-resized : (p : Position) → p.row ≡ k → rect_marks t p ≡ rect_marks resized p
      unfolding rect_marks run_of row_lines rows_from
      marks-resized p row =
          let one = rect_rows-one t.config.spans alone p in
          let mine = marks_within-run t.config t.height p.row 0 t.rows (omega (arith, below, row)) in
          let other = marks_within-run t.config heights p.row 0 t.rows (omega (arith, below, row)) in
          let high : t.height p.row ≡ heights p.row = ap t.height row ∙ same ∙ ap heights (sym row) in
          rw one (mine ∙ ap (λ n. map (line p.row) (range_with_len 0 n) ++ []) high ∙ sym other)

      block-resized : (x i : ℕ) → block_at t (owner t.config.spans k x) (line k i) ≡ block_at resized (owner t.config.spans k x) (line k i)
      unfolding block_at rect_height rect_width
      block-resized x i = rw (marks-resized (owner t.config.spans k x) (owner-row t.config.spans apart alone k x)) refl

      pub line-resized : (i : ℕ) → mark_text t (line k i) ≡ mark_text resized (line k i)
      unfolding mark_text line_of_row row_part is_inside
      line-resized i =
          ap (λ (part : ℕ → List _). written (flat_map part (range_with_len 0 (t.columns + 1))))
          (fun_ext (λ x. rw (same, block-resized x i) refl))

      lines-resized : (xs : List ℕ) → AllSame t resized (map (line k) xs)
      lines-resized [] = tt
      lines-resized (x ∷ xs) = (line-resized x, lines-resized xs)

      marks_of-resized : (b : Bool) (xs : List ℕ) → AllSame t resized (only_if b (sep k) ++ map (line k) xs)
      marks_of-resized true xs = (sep-resized k, lines-resized xs)
      marks_of-resized false xs = lines-resized xs

      pub row-resized : AllSame t resized (marks_of_row t.config t.height k)
      unfolding marks_of_row
      row-resized = marks_of-resized (has_horizontal t.config k (k + 1)) (range_with_len 0 (t.height k))

-- ---- lines of bodies of which the number of lines isn't known

module _ (t : Table) (heights : ℕ → ℕ) (h k : ℕ) where
  line-same : (i : ℕ) (mark : Mark) → i < h → i < k → mark_text t mark ≡ mark_text (record t { height = heights }) mark
      → body_line Unknown t h (i, mark) ≡ body_line Unknown (record t { height = heights }) k (i, mark)
  unfolding body_line side_margin SameHeight
  line-same i mark a b e =
      rw (blank_same Unknown t.config.margin_offset.left i h k a b tt, blank_same Unknown t.config.margin_offset.right i h k a b tt, e) refl

  pub lines-same : (i : ℕ) (marks : List Mark) → i + length marks ≤ h → i + length marks ≤ k → AllSame t (record t { height = heights }) marks
      → map (body_line Unknown t h) (enumerate_from i marks) ≡ map (body_line Unknown (record t { height = heights }) k) (enumerate_from i marks)
  lines-same i [] a b e = refl
  lines-same i (mark ∷ marks) a b e = ap₂ (λ (x : Text) (y : List Text). x ∷ y) (line-same i mark (omega arith) (omega arith) e.0) (lines-same (i + 1) marks (omega arith) (omega arith) e.1)
