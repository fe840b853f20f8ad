-- A table that fits can be drawn, and the sizes of its rectangles.
use Rattle.std.proofs.Common.{◌≡◌, ℕ, ◌+◌, ◌<◌, true, false, Option, Some, None, ap, ◌∙◌, sum_by, arith, ◌-◌, ◌^◌, ◌≤◌, cond, nat_lt, refl, sym, ap₂, subst, if◌then◌else◌}
use Rattle.std.specs.List.{range_with_len}
use Rattle.std.proofs.lemmas.Bool.Decides.{nat_tests}
use Rattle.pg_layout.specs.Keys.{by_columns}
use Rattle.pg_layout.specs.declared.position.Position.{Position}
use Rattle.pg_layout.specs.Places.{IsAscending}
use Rattle.pg_config.specs.Config.{count_vertical, count_horizontal, has_horizontal}
use Rattle.pg_picture.specs.Pieces.{style_at, written, block_line}
use Rattle.pg_picture.specs.Table.{Table, is_empty, total_width, full_width, rect_marks, rect_width, rect_height, block_at}
use Rattle.pg_picture.specs.Fits.{misfit_of, cell_fits, body_height}
use Rattle.pg_picture.specs.Sizes.{if_fits, sized, height_of_rect}
use Rattle.pg_picture.proofs.FirstPlaces.{fits, cell_fits_plain}
use Rattle.pg_picture.proofs.FittingTables.{totals_facts, RectInside, rect_width-sized, rect_height_fits, width_answer, height_answer}
use Rattle.pg_picture.proofs.OwnersOfPlaces.{InOrder, left_sound, size_of_corner}
use Rattle.pg_picture.proofs.Ranges.{some_answer, sum_by-from_more}
use Rattle.pg_peekable.specs.Inside.{CanDraw, HasNoSpans, IsRectangle, IsOwnerOf, OwnsRow}
use Rattle.pg_config.specs.declared.spans.SpanSize.{SpanSize}
use Rattle.pg_config.specs.Spans.{Span, corner, left_span, rect_rows, rect_columns}
use Rattle.pg_picture.specs.Marks.{Mark, sep, line, place_of}
use Rattle.pg_picture.specs.Rectangles.{IsOwner}
use Rattle.pg_picture.specs.Inside.{rows_height}
use Rattle.pg_picture.proofs.DrawnRectangles.{rect_of, rows_height-fits, line_place, line_inside, sep_place, sep_inside, corner_owns, corner_from, corner_to, corner_inside}
use Rattle.pg_peekable.specs.declared.rectangle.Rectangle.{Rectangle}

-- ---- a table in which everything fits can be drawn; its width and its height are numbers

pub can_draw : (t : Table) → IsAscending by_columns t.config.spans → misfit_of t ≡ None → is_empty t ≡ false → CanDraw t
can_draw t ascending fitting some =
    let rows : 0 < t.rows = grind (arith, nat_tests, some) in
    let columns : 0 < t.columns = grind (arith, nat_tests, some) in
    record { ascending = ascending; fits = fits t fitting rows columns }

pub in_order : (t : Table) → CanDraw t → InOrder t.config.spans t.rows t.columns
in_order t can = record { ascending = can.ascending; fit = can.fits.spans }

-- without spans a cell has room in its column and its row
pub plain_room : (t : Table) → CanDraw t → HasNoSpans t → (p : Position) → p.row < t.rows → p.col < t.columns → cell_fits (style_at t.config p) (t.text p) (t.width p.col) (t.height p.row) ≡ true
plain_room t can none p h k = cell_fits_plain t p none h (can.fits.rooms p.row p.col h k)

module _ (t : Table) where
  pub full_width-sized : (columns : ℕ) → columns ≡ t.columns → full_width (sized t.config t.width t.height 0 columns) ≡ full_width t
  unfolding full_width total_width
  full_width-sized columns is = ap (λ n. (t.config.margin.left.size + (sum_by t.width (range_with_len 0 n) + count_vertical t.config n)) + t.config.margin.right.size) is

  pub body_height-sized : (rows : ℕ) → rows ≡ t.rows → body_height (sized t.config t.width t.height rows 0) ≡ body_height t
  unfolding body_height
  body_height-sized rows is = ap (λ n. sum_by t.height (range_with_len 0 n) + count_horizontal t.config n) is

  -- what the calls answer that add up widths and heights
  pub width-answer : {answer : Option ℕ} (columns : ℕ) → CanDraw t → columns ≡ t.columns → answer ≡ if_fits (full_width (sized t.config t.width t.height 0 columns)) → answer ≡ Some (full_width t)
  width-answer columns can is answer = some_answer (full_width t) (totals_facts t can.fits.totals).width (answer ∙ ap if_fits (full_width-sized columns is))

  pub height-answer : {answer : Option ℕ} (rows : ℕ) → CanDraw t → rows ≡ t.rows → answer ≡ if_fits (body_height (sized t.config t.width t.height rows 0)) → answer ≡ Some (body_height t)
  height-answer rows can is answer = some_answer (body_height t) (totals_facts t can.fits.totals).height (answer ∙ ap if_fits (body_height-sized rows is))

-- ---- the size of a rectangle as the calls answer it, and the lines above a row as a loop adds them up

module _ (t : Table) (can : CanDraw t) where
  pub owner_inside : (p : Position) → IsOwner t p → RectInside t.config.spans t.rows t.columns p
  owner_inside p o = rect_of t (in_order t can) p o

  -- what the calls answer that add up widths and heights of the table's parts
  module _ (u : Table) (same : u ≡ t) (p : Position) (o : IsOwner t p) where
    pub rect-width-answer : (columns : ℕ) → columns ≡ t.columns → (answer : Option ℕ)
        → ((rows : ℕ) → answer ≡ if_fits (rect_width (sized u.config u.width u.height rows columns) p)) → answer ≡ Some (rect_width t p)
    rect-width-answer columns is answer answers =
        answers t.rows
        ∙ ap₂ (λ (s : Table) (n : ℕ). if_fits (rect_width (sized s.config s.width s.height t.rows n) p)) same is
        ∙ ap if_fits (rect_width-sized t p)
        ∙ width_answer t p can.fits.totals (owner_inside p o)

    pub rect-height-answer : (answer : Option ℕ)
        → answer ≡ (if nat_lt (p.row + rect_rows u.config.spans p) (2 ^ 64) then if_fits (height_of_rect u.config u.height p) else None) → answer ≡ Some (rect_height t p)
    rect-height-answer answer answers =
        answers
        ∙ ap (λ (s : Table). if nat_lt (p.row + rect_rows s.config.spans p) (2 ^ 64) then if_fits (height_of_rect s.config s.height p) else None) same
        ∙ height_answer t p can.fits.totals (owner_inside p o)

  -- one row more
  rows_height-more : (a k : ℕ) → rows_height t a (k + 1) ≡ rows_height t a k + (t.height (a + k) + cond (has_horizontal t.config ((a + 1) + k) t.rows) 1 0)
  rows_height-more a k =
      let f : ℕ → ℕ = λ r. cond (has_horizontal t.config r t.rows) 1 0 in
      omega (arith, sum_by-from_more t.height a k, sum_by-from_more f (a + 1) k)

  pub lines-none : (first : ℕ) → 0 ≡ rows_height t first (first - first)
  lines-none first = let e : first - first ≡ 0 = omega arith in rw e refl

  pub lines-more : (first above : ℕ) {lines high separator rows : ℕ} → first ≤ above → lines ≡ rows_height t first (above - first) → high ≡ t.height above → rows ≡ t.rows → separator ≡ cond (has_horizontal t.config (above + 1) rows) 1 0
      → lines + (high + separator) ≡ rows_height t first (above + 1 - first)
  lines-more first above {lines} {high} {separator} {rows} h is high_is rows_is separator_is =
      let f : ℕ → ℕ = λ r. cond (has_horizontal t.config r t.rows) 1 0 in
      let more = rows_height-more first (above - first) in
      let one : t.height (first + (above - first)) ≡ t.height above = ap t.height (omega (arith, h)) in
      let two : f ((first + 1) + (above - first)) ≡ f (above + 1) = ap f (omega (arith, h)) in
      let three : separator ≡ f (above + 1) = separator_is ∙ ap (λ (n : ℕ). cond (has_horizontal t.config (above + 1) n) 1 0) rows_is in
      let step : above + 1 - first ≡ (above - first) + 1 = omega (arith, h) in
      let next : rows_height t first (above + 1 - first) ≡ rows_height t first ((above - first) + 1) = ap (λ (k : ℕ). rows_height t first k) step in
      omega (arith, more, one, two, three, next, is, high_is)

  pub lines-fit : (first above : ℕ) → first ≤ above → above ≤ t.rows → rows_height t first (above - first) < 2 ^ 64
  lines-fit first above h k = rows_height-fits t can.fits.totals first (above - first) (omega (arith, h, k))

-- the lines of a rectangle above its row
pub above-row : (t : Table) {r : Rectangle} {k above : ℕ} (row : ℕ) → IsRectangle t r k above → k ≡ row → above ≡ rows_height t r.corner.row (row - r.corner.row)
above-row t {r} row is here = is.above ∙ ap (λ (k : ℕ). rows_height t r.corner.row (k - r.corner.row)) here

-- a line of a block, by its number
block-line : (t : Table) (p : Position) (mark : Mark) (number : ℕ) → number ≡ place_of mark (rect_marks t p)
    → block_line (style_at t.config p) (t.color p) (t.text p) (rect_width t p) (rect_height t p) number ≡ block_at t p mark
unfolding block_at
block-line t p mark number is = ap (λ n. block_line (style_at t.config p) (t.color p) (t.text p) (rect_width t p) (rect_height t p) n) is

-- ---- the lines of a rectangle that a search found

module _ (t : Table) (can : CanDraw t) (r x : ℕ) (s : Span) (found : left_span t.config.spans r x ≡ Some s) where
  order : InOrder t.config.spans t.rows t.columns
  order = in_order t can

  found_owner : IsOwnerOf t s
  unfolding rect_rows rect_columns
  found_owner =
      let size = size_of_corner t.config.spans t.rows t.columns order s (left_sound t.config.spans t.rows t.columns order r x s found).among in
      record { owner = corner_owns t order r x s found; rows = sym (ap (λ (n : SpanSize). n.rows) size); columns = sym (ap (λ (n : SpanSize). n.columns) size) }

  pub found_owns : OwnsRow t s r
  found_owns =
      let to = corner_to t order r x s found in
      let inside = corner_inside t order r x s found in
      record { of = found_owner; first = corner_from t order r x s found; row = omega (arith, to, inside) }

module _ (t : Table) (can : CanDraw t) (r x : ℕ) (s : Span) (found : left_span t.config.spans r x ≡ Some s) (q : Position) (is : q ≡ corner s) where
  -- where `above` lines of the rectangle stand above row r
  module _ (above : ℕ) (sum : above ≡ rows_height t q.row (r - q.row)) where
    sum_of : above ≡ rows_height t s.0.row (r - s.0.row)
    sum_of = sum ∙ ap (λ (p : Position). rows_height t p.row (r - p.row)) is

    pub found_inside : (i : ℕ) → i < t.height r → above + i < rect_height t q
    found_inside i h =
        let less = line_inside t (corner s) r (corner_from t (in_order t can) r x s found) (corner_to t (in_order t can) r x s found) (corner_inside t (in_order t can) r x s found) i h in
        subst (λ (p : Position). above + i < rect_height t p) (sym is) (omega (arith, less, sum_of))

    pub found_fits : (i : ℕ) → i < t.height r → above + i < 2 ^ 64
    found_fits i h = omega (arith, found_inside i h, rect_height_fits t q can.fits.totals)

    pub found_line : (i : ℕ) → i < t.height r
        → written (block_line (style_at t.config q) (t.color q) (t.text q) (rect_width t q) (rect_height t q) (above + i)) ≡ written (block_at t (corner s) (line r i))
    found_line i h =
        let place = line_place t (corner s) r (corner_from t (in_order t can) r x s found) (corner_to t (in_order t can) r x s found) (corner_inside t (in_order t can) r x s found) i h in
        ap (λ (p : Position). written (block_line (style_at t.config p) (t.color p) (t.text p) (rect_width t p) (rect_height t p) (above + i))) is
        ∙ ap written (block-line t (corner s) (line r i) (above + i) (omega (arith, place, sum_of)))

    -- and the one on the separator above row r, where the rectangle begins above it
    module _ (below : s.0.row < r) (there : has_horizontal t.config r t.rows ≡ true) where
      place_of_sep : place_of (sep r) (rect_marks t (corner s)) + 1 ≡ above
      place_of_sep =
          let place = sep_place t (corner s) r (corner_from t (in_order t can) r x s found) (corner_to t (in_order t can) r x s found) (corner_inside t (in_order t can) r x s found) below there in
          omega (arith, place, sum_of)

      pub found_some : 1 ≤ above
      found_some = omega (arith, place_of_sep)

      pub found_sep_inside : above - 1 < rect_height t q
      found_sep_inside =
          let less = sep_inside t (corner s) r (corner_from t (in_order t can) r x s found) (corner_to t (in_order t can) r x s found) (corner_inside t (in_order t can) r x s found) below there in
          subst (λ (p : Position). above - 1 < rect_height t p) (sym is) (omega (arith, less, sum_of))

      pub found_sep : block_line (style_at t.config q) (t.color q) (t.text q) (rect_width t q) (rect_height t q) (above - 1) ≡ block_at t (corner s) (sep r)
      found_sep =
          ap (λ (p : Position). block_line (style_at t.config p) (t.color p) (t.text p) (rect_width t p) (rect_height t p) (above - 1)) is
          ∙ block-line t (corner s) (sep r) (above - 1) (omega (arith, place_of_sep))
