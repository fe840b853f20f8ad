-- Straight columns: where glyphs and fills are narrow and no glyph is missing, each line of the body is as wide as the
-- table.
use Rattle.std.proofs.Common.{◌≡◌, ℕ, zero, suc, ◌+◌, ◌-◌, ◌*◌, ◌<◌, ◌≤◌, min, true, cond, nat_lt, nat_le, List, [], ◌∷◌, ◌++◌, map, length, sum_by, refl, sym, ap, ap₂, ◌∙◌, arith, zero-add, mul-one, Option, Some, None, IfSome, is_some, unwrap_or, encode_utf8, inl, inr}
use Rattle.std.specs.List.{range_with_len, enumerate_from, list_all}
use Rattle.std.specs.Option.{option_or}
use Rattle.std.proofs.lemmas.List.Sums.{sum_by-append, sum_by-cons}
use Rattle.std.proofs.lemmas.List.Elements.{All-weaker}
use Rattle.std.proofs.lemmas.Bool.{cases_Bool, and_parts, and_from, false≢true}
use Rattle.std.proofs.lemmas.Bool.Decides.{nat_tests}
use Rattle.pg_layout.specs.declared.position.Position.{Position}
use Rattle.pg_layout.specs.declared.sides.Indent.{Indent}
use Rattle.pg_layout.specs.declared.sides.Offset.{Offset}
use Rattle.pg_layout.specs.declared.sides.Offset.TheVariants.{Start, End}
use Rattle.pg_layout.specs.Position.{at, is_at}
use Rattle.pg_layout.specs.Text.{width_of}
use Rattle.pg_layout.specs.Colors.{Color}
use Rattle.pg_layout.proofs.Computing.{text_words}
use Rattle.pg_config.specs.Config.{Config, has_horizontal, has_vertical, get_horizontal, get_vertical, get_intersection, get_intersection_color}
use Rattle.pg_config.specs.Offsets.{lookup_offset}
use Rattle.pg_config.specs.Spans.{Span, owner}
use Rattle.pg_picture.specs.Marks.{Mark, sep, line, only_if, place_of}
use Rattle.pg_picture.specs.Pieces.{Item, spaces, block, fill, style_at, pieces_width, piece_width}
use Rattle.pg_picture.specs.Table.{Table, Hint, rect_width, rect_height, block_at, is_inside, is_covered, vertical, vertical_at, row_part, line_of_row, crossing_at, crossing_item, crossing, border_items, horizontal_items, column_items, separator_part, separator_items, total_width, full_width, table_body, rect_marks, is_blank_at, side_margin, margin_line}
use Rattle.pg_picture.specs.Fits.{all_apart, span_fits_columns, span_fits, spans_fit, spans_fit_columns, cell_fits, misfit_of}
use Rattle.pg_picture.specs.Straight.{IsNarrow, CellsFit, HasNarrowGlyphs, HasNoGaps, HasNarrowMargins, HasStraightLines, HasStraightMargins, item_width, mark_width, body_line_width, IsStraight}
use Rattle.pg_picture.proofs.FirstPlaces.{fits}
use Rattle.pg_picture.proofs.Ranges.{sum_by-from_more}
use Rattle.pg_picture.proofs.Owners.{HasOwners, apart_from, owners_of, owner-own, sum_by-flat_map, all_reached, total_width-columns, there, column_at, end_of, ahead, hanging, inside-facts, begins, ahead-begins, ahead-end, step-begins, step-inside, hanging-inside, hanging-begins, hanging-step, step-open, hanging-end}
use Rattle.pg_picture.proofs.Pictures.{All-body, All-enumerate_from}
use Rattle.pg_picture.proofs.PlacesOfTexts.{pieces_width-append, pieces_width-fill, block_line-width}
use Rattle.pg_picture.proofs.WalksOfRows.{row_part_end, separator_part_end, left-there, row-begins, row-inside, covered-row, no-crossing, crossing-begins, crossing-open, column-inside, column-begins, column-open}
use Rattle.pg_picture.proofs.FittingTables.{rect_inside, owner_fits-own}
use Rattle.pg_picture.proofs.Separators.{get_vertical-none}

-- ---- glyphs

-- an offset glyph or the border's own
narrow-or : (o : Option ℕ) (g : ℕ) → IfSome o IsNarrow → IsNarrow g → IsNarrow (unwrap_or (option_or o (Some g)) 0)
narrow-or None g h k = k
narrow-or (Some o) g h k = h

narrow-other : (o : Option ℕ) (g : ℕ) → IfSome o IsNarrow → IsNarrow g → IsNarrow (unwrap_or o g)
narrow-other None g h k = k
narrow-other (Some o) g h k = h

-- a vertical: one column where its column line is there, else none
vertical-width : (config : Config) (columns h : ℕ) (p : Position) (i : ℕ) (g : Option ℕ) → get_vertical config p columns ≡ g → p.col ≤ columns
    → IfSome g IsNarrow → IfSome (lookup_offset config.vertical_chars p i h) IsNarrow → (has_vertical config p.col columns ≡ true → is_some g ≡ true)
    → pieces_width (vertical_at config columns h p i) ≡ cond (has_vertical config p.col columns) 1 0
unfolding vertical_at
vertical-width config columns h p i None is inside narrow offset gap =
    elim (cases_Bool (has_vertical config p.col columns)) [
      | inl y ↦ absurd (false≢true (gap y))
      | inr n ↦ rw (is, n) (unfold pieces_width in refl)
    ]
vertical-width config columns h p i (Some g) is inside narrow offset gap =
    elim (cases_Bool (has_vertical config p.col columns)) [
      | inl y ↦ rw (is, y) (pieces_width-fill _ 1 _ (narrow-or (lookup_offset config.vertical_chars p i h) g offset narrow))
      | inr n ↦ absurd (false≢true (ap (λ (o : Option ℕ). is_some o) (sym (get_vertical-none config p columns inside n) ∙ is)))
    ]

-- a crossing likewise
crossing-width : (config : Config) (rows columns : ℕ) (p : Position) (g : Option ℕ) → get_intersection config p rows columns ≡ g
    → IfSome g IsNarrow → (has_vertical config p.col columns ≡ true → is_some g ≡ true)
    → sum_by item_width (crossing_at config rows columns p) ≡ cond (has_vertical config p.col columns) 1 0
unfolding crossing_at
crossing-width config rows columns p g is narrow gap =
    elim (cases_Bool (has_vertical config p.col columns)) [
      | inl y ↦ rw (y, is) (shown g narrow (gap y))
      | inr n ↦ rw n refl
    ]
  where
    shown : (o : Option ℕ) → IfSome o IsNarrow → is_some o ≡ true → sum_by item_width (crossing_item o (get_intersection_color config p rows columns)) ≡ 1
    shown None h k = absurd (false≢true k)
    shown (Some c) h k = zero-add _ ∙ h

space-narrow : IsNarrow 32
unfolding text_words
space-narrow = refl

sum_by-ones : {Y : Type 0} (w : Y → ℕ) (f : ℕ → Y) (a n : ℕ) → ((i : ℕ) → a ≤ i → i < a + n → w (f i) ≡ 1) → sum_by w (map f (range_with_len a n)) ≡ n
sum_by-ones w f a zero h = refl
sum_by-ones w f a (suc n) h = omega (arith, sum_by-cons w (f a) (map f (range_with_len (a + 1) n)), h a (omega arith) (omega arith), sum_by-ones w f (a + 1) n (λ i l m. h i (omega arith) (omega arith)))

-- a horizontal is as wide as its column: its glyphs one by one, or spaces
horizontal-width : (config : Config) (p : Position) (rows w : ℕ) (g : Option ℕ) → IfSome g IsNarrow → ((i : ℕ) → i < w → IfSome (lookup_offset config.horizontal_chars p i w) IsNarrow)
    → sum_by item_width (border_items config p rows w g) ≡ w
horizontal-width config p rows w None narrow offsets = spaces-width w
  where
    spaces-width : (n : ℕ) → sum_by item_width (only_if (nat_lt 0 n) (spaces n)) ≡ n
    spaces-width zero = refl
    spaces-width (suc n) =
        let some : nat_lt 0 (suc n) ≡ true = grind (arith, nat_tests) in
        let one : suc n * width_of (encode_utf8 32) ≡ suc n = ap (λ m. suc n * m) space-narrow ∙ mul-one (suc n) in
        rw some (omega (arith, one))
horizontal-width config p rows w (Some g) narrow offsets =
    sum_by-ones item_width _ 0 w (λ i l m. narrow-other (lookup_offset config.horizontal_chars p i w) g (offsets i (omega arith)) narrow)

-- ---- lines of the body

-- what each part of a line takes
record PartsOf (t : Table) : Type 0 where
  owners : HasOwners t.config.spans
  rects_end : (r c : ℕ) → r < t.rows → c < t.columns → end_of t r c ≤ t.columns
  blocks : (r c : ℕ) (mark : Mark) → r < t.rows → c < t.columns → pieces_width (block_at t (owner t.config.spans r c) mark) ≡ rect_width t (owner t.config.spans r c)
  verticals : (r c i : ℕ) → r < t.rows → c ≤ t.columns → i < t.height r → pieces_width (vertical t r i c) ≡ there t c
  crossings : (r c : ℕ) → r ≤ t.rows → c ≤ t.columns → has_horizontal t.config r t.rows ≡ true → sum_by item_width (crossing_at t.config t.rows t.columns (at r c)) ≡ there t c
  horizontals : (r c : ℕ) → r ≤ t.rows → c < t.columns → sum_by item_width (horizontal_items t r c (get_horizontal t.config (at r c) t.rows)) ≡ t.width c

module _ (t : Table) (parts : PartsOf t) where
  -- the parts of a row's line
  row_part-step : (r i k : ℕ) → r < t.rows → i < t.height r → k < t.columns
      → pieces_width (row_part t r i k) + sum_by (column_at t) (range_with_len k (ahead t parts.owners r k)) ≡ column_at t k + sum_by (column_at t) (range_with_len (k + 1) (ahead t parts.owners r (k + 1)))
  row_part-step r i k h l here =
      elim (cases_Bool (is_inside t r k)) [
        | inl y ↦
            let facts = inside-facts t parts.owners r k y in
            step-inside t parts.owners r k (pieces_width (row_part t r i k)) y (ap pieces_width (row-inside t r i k here y facts.2) ∙ unfold pieces_width in refl)
        | inr n ↦
            let own : Position = owner t.config.spans r k in
            let left = left-there t r k (begins t parts.owners r k here n) in
            step-begins t parts.owners r k (pieces_width (row_part t r i k)) here n
            (ap pieces_width (row-begins t r i k here n left) ∙ pieces_width-append (vertical t r i k) (block_at t own (line r i))
            ∙ ap₂ (λ (a b : ℕ). a + b) (parts.verticals r k i h (omega (arith, here)) l) (parts.blocks r k (line r i) h here))
      ]

  line_of_row-width : (r i : ℕ) → r < t.rows → i < t.height r → pieces_width (line_of_row t r i) ≡ total_width t
  unfolding line_of_row pieces_width
  line_of_row-width r i h l =
      let part : ℕ → ℕ = λ x. pieces_width (row_part t r i x) in
      let all : sum_by piece_width (line_of_row t r i) ≡ sum_by part (range_with_len 0 (t.columns + 1)) = sum_by-flat_map piece_width (row_part t r i) (range_with_len 0 (t.columns + 1)) in
      let front = all_reached part (column_at t) (ahead t parts.owners r) t.columns refl (λ k here. row_part-step r i k h l here) (ahead-end t parts.owners r (λ some. parts.rects_end r (t.columns - 1) h (omega (arith, some)))) in
      let last : part t.columns ≡ there t t.columns = ap pieces_width (row_part_end t r i) ∙ parts.verticals r t.columns i h (omega arith) l in
      omega (arith, all, front, last, sum_by-from_more part 0 t.columns, ap part (zero-add t.columns), total_width-columns t)

  -- the parts of a separator
  items : ℕ → ℕ → ℕ
  items r k = sum_by item_width (separator_part t r k)

  items-two : (r k : ℕ) (xs ys : List Item) → crossing t r k ≡ xs → column_items t r k ≡ ys → items r k ≡ sum_by item_width xs + sum_by item_width ys
  unfolding items separator_part
  items-two r k xs ys a b = ap₂ (λ (x y : List Item). sum_by item_width (x ++ y)) a b ∙ sum_by-append item_width xs ys

  separator_part-step : (r k : ℕ) → r ≤ t.rows → has_horizontal t.config r t.rows ≡ true → k < t.columns
      → items r k + sum_by (column_at t) (range_with_len k (hanging t parts.owners r k)) ≡ column_at t k + sum_by (column_at t) (range_with_len (k + 1) (hanging t parts.owners r (k + 1)))
  separator_part-step r k h drawn here =
      elim (cases_Bool (is_covered t r k)) [
        | inl covered ↦ elim (cases_Bool (is_inside t r k)) [
          | inl y ↦
              let facts = inside-facts t parts.owners r k y in
              let none : items r k ≡ 0 = items-two r k [] [] (no-crossing t r k y covered) (column-inside t r k covered facts.2) in
              hanging-step t parts.owners r k (items r k) (hanging-inside t parts.owners r k y ∙ ap (λ b. cond b (ahead t parts.owners r k) 0) covered) covered
              (step-inside t parts.owners r k (items r k) y none)
          | inr n ↦
              let left = left-there t r k (begins t parts.owners r k here n) in
              let own : Position = owner t.config.spans r k in
              let one : List Item = block (block_at t own (sep r)) ∷ [] in
              let both = items-two r k (crossing_at t.config t.rows t.columns (at r k)) one (crossing-begins t r k n) (column-begins t r k covered left) in
              let wide = parts.blocks r k (sep r) (covered-row t r k covered) here in
              hanging-step t parts.owners r k (items r k) (hanging-begins t parts.owners r k here n ∙ sym (ahead-begins t parts.owners r k here n)) covered
              (step-begins t parts.owners r k (items r k) here n (omega (arith, both, wide, parts.crossings r k h (omega (arith, here)) drawn)))
        ]
        | inr out ↦
            let glyphs : List Item = horizontal_items t r k (get_horizontal t.config (at r k) t.rows) in
            let both = items-two r k (crossing_at t.config t.rows t.columns (at r k)) glyphs (crossing-open t r k out) (column-open t r k here out) in
            step-open t parts.owners r k (items r k) here out (omega (arith, both, parts.crossings r k h (omega (arith, here)) drawn, parts.horizontals r k h here))
      ]

  separator_items-width : (r : ℕ) → r ≤ t.rows → has_horizontal t.config r t.rows ≡ true → sum_by item_width (separator_items t r) ≡ total_width t
  unfolding separator_items items
  separator_items-width r h drawn =
      let all : sum_by item_width (separator_items t r) ≡ sum_by (items r) (range_with_len 0 (t.columns + 1)) = sum_by-flat_map item_width (separator_part t r) (range_with_len 0 (t.columns + 1)) in
      let front = all_reached (items r) (column_at t) (hanging t parts.owners r) t.columns refl (λ k here. separator_part-step r k h drawn here) (hanging-end t parts.owners r (λ row some. parts.rects_end r (t.columns - 1) row (omega (arith, some)))) in
      let last : items r t.columns ≡ there t t.columns = ap (λ l. sum_by item_width l) (separator_part_end t r) ∙ parts.crossings r t.columns h (omega arith) drawn in
      omega (arith, all, front, last, sum_by-from_more (items r) 0 t.columns, ap (items r) (zero-add t.columns), total_width-columns t)

-- ---- tables whose cells fit

pub fits-columns : (spans : List Span) (rows columns : ℕ) → spans_fit spans rows columns ≡ true → spans_fit_columns spans columns ≡ true
unfolding spans_fit spans_fit_columns
fits-columns spans rows columns h =
    let parts = and_parts (list_all (span_fits rows columns) spans) (all_apart spans) h in
    and_from (list_all (span_fits_columns columns) spans) (all_apart spans) (go spans parts.0) parts.1
  where
    go : (ss : List Span) → list_all (span_fits rows columns) ss ≡ true → list_all (span_fits_columns columns) ss ≡ true
    go [] k = refl
    go (s ∷ ss) k =
        let both = and_parts (span_fits rows columns s) (list_all (span_fits rows columns) ss) k in
        and_from (span_fits_columns columns s) (list_all (span_fits_columns columns) ss) (and_parts (span_fits_columns columns s) (nat_le (s.0.row + s.1.rows) rows) both.0).0 (go ss both.1)

module _ (t : Table) (fit : CellsFit t) (narrow : HasNarrowGlyphs t) (whole : HasNoGaps t) where
  owners : HasOwners t.config.spans
  owners = owners_of t.config.spans (apart_from t.config.spans t.columns (fits-columns t.config.spans t.rows t.columns fit.spans))

  owner-row : (r c : ℕ) → r < t.rows → (owner t.config.spans r c).row < t.rows
  owner-row r c h = omega (arith, (owners.near r c).below)

  owner-col : (r c : ℕ) → c < t.columns → (owner t.config.spans r c).col < t.columns
  owner-col r c h = omega (arith, (owners.near r c).right)

  block-width : (r c : ℕ) (mark : Mark) → r < t.rows → c < t.columns → pieces_width (block_at t (owner t.config.spans r c) mark) ≡ rect_width t (owner t.config.spans r c)
  unfolding block_at
  block-width r c mark h k =
      let p : Position = owner t.config.spans r c in
      let own : owner t.config.spans p.row p.col ≡ p = owner-own t.config.spans owners r c in
      let here : is_at (owner t.config.spans p.row p.col) p.row p.col ≡ true = rw own (grind (arith, nat_tests)) in
      let room : cell_fits (style_at t.config p) (t.text p) (rect_width t p) (rect_height t p) ≡ true = sym (owner_fits-own t p here) ∙ fit.rooms p.row p.col (owner-row r c h) (owner-col r c k) in
      block_line-width (style_at t.config p) (t.color p) (rect_width t p) (narrow.fills p.row p.col (owner-row r c h) (owner-col r c k) own) (t.text p) (rect_height t p) (place_of mark (rect_marks t p)) room

  parts_of : PartsOf t
  parts_of = record {
    owners = owners;
    rects_end = λ r c h k. (rect_inside t.config.spans t.rows t.columns (owner t.config.spans r c) fit.spans (owner-row r c h) (owner-col r c k)).columns_end;
    blocks = block-width;
    verticals = λ r c i h k l. vertical-width t.config t.columns (t.height r) (at r c) i (get_vertical t.config (at r c) t.columns) refl k (narrow.verticals r c h k) (narrow.vertical_offsets r c i h k l) (whole.verticals r c h k);
    crossings = λ r c h k drawn. crossing-width t.config t.rows t.columns (at r c) (get_intersection t.config (at r c) t.rows t.columns) refl (narrow.crossings r c h k) (whole.crossings r c h k drawn);
    horizontals = λ r c h k. horizontal-width t.config (at r c) t.rows (t.width c) (get_horizontal t.config (at r c) t.rows) (narrow.horizontals r c h k) (λ i. narrow.horizontal_offsets r c i h k);
  }

pub columns_are_straight : (t : Table) → CellsFit t → HasNarrowGlyphs t → HasNoGaps t → HasStraightLines t
unfolding table_body
columns_are_straight t fit narrow whole =
    let parts = parts_of t fit narrow whole in
    All-body (λ mark. mark_width t mark ≡ total_width t) t.config t.height t.rows (λ r i h k. line_of_row-width t parts r i h k) (λ r h drawn. separator_items-width t parts r h drawn)

-- A table that fits promises straight lines.
pub is_straight : (t : Table) → misfit_of t ≡ None → IsStraight t
is_straight t fit rows columns narrow whole =
    let fitting = fits t fit rows columns in
    columns_are_straight t (record { spans = fitting.spans; rooms = fitting.rooms }) narrow whole

-- ---- margins

side_margin-width : (hint : Hint) (indent : Indent) (offset : Offset) (color : Option Color) (i h : ℕ) → IsNarrow indent.fill → pieces_width (side_margin hint indent offset color i h) ≡ indent.size
unfolding side_margin
side_margin-width hint indent offset color i h narrow =
    elim (cases_Bool (is_blank_at hint offset i h)) [
      | inl y ↦ rw y (pieces_width-fill 32 indent.size None space-narrow)
      | inr n ↦ rw n (pieces_width-fill indent.fill indent.size color narrow)
    ]

margin_line-width : (indent : Indent) (offset : Offset) (color : Option Color) (w : ℕ) → IsNarrow indent.fill → pieces_width (margin_line indent offset color w) ≡ w
unfolding margin_line
margin_line-width indent (Start n) color w narrow =
    let front = fill 32 (min n w) None in
    let rest = fill indent.fill (w - min n w) color in
    omega (arith, pieces_width-append front rest, pieces_width-fill 32 (min n w) None space-narrow, pieces_width-fill indent.fill (w - min n w) color narrow)
margin_line-width indent (End n) color w narrow =
    let front = fill indent.fill (w - min n w) color in
    let rest = fill 32 (min n w) None in
    omega (arith, pieces_width-append front rest, pieces_width-fill indent.fill (w - min n w) color narrow, pieces_width-fill 32 (min n w) None space-narrow)

pub margins_are_straight : (hint : Hint) (t : Table) → CellsFit t → HasNarrowGlyphs t → HasNoGaps t → HasNarrowMargins t → HasStraightMargins hint t
unfolding full_width
margins_are_straight hint t fit narrow whole margins =
    let marks : List Mark = table_body t in
    let h : ℕ = length (table_body t) in
    let Straight : Mark → Type 0 = λ mark. mark_width t mark ≡ total_width t in
    record {
      body = All-weaker (λ (e : ℕ × Mark). Straight e.1) (λ e. body_line_width hint t h e ≡ (t.config.margin.left.size + total_width t) + t.config.margin.right.size)
          (λ e straight.
          let left = side_margin-width hint t.config.margin.left t.config.margin_offset.left t.config.margin_color.left e.0 h margins.left in
          let right = side_margin-width hint t.config.margin.right t.config.margin_offset.right t.config.margin_color.right e.0 h margins.right in
          omega (arith, left, right, straight))
          (enumerate_from 0 marks) (All-enumerate_from Straight 0 marks (columns_are_straight t fit narrow whole));
      top = margin_line-width t.config.margin.top t.config.margin_offset.top t.config.margin_color.top _ margins.top;
      bottom = margin_line-width t.config.margin.bottom t.config.margin_offset.bottom t.config.margin_color.bottom _ margins.bottom;
    }
