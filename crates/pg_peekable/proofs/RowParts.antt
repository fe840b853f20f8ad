-- What a column adds to a line of a row and to a separator, and lines that are read on from where the last one ended.
use Rattle.std.proofs.Common.{◌≡◌, ℕ, ◌+◌, ◌-◌, ◌<◌, true, List, [], ◌++◌, flat_map, sym, ap, ◌∙◌, zero-add, Some, None, arith, ◌≤◌, ◌∷◌, Option, ap₂, subst, length, refl}
use Rattle.std.specs.List.{range_with_len}
use Rattle.pg_layout.specs.declared.position.Position.{Position}
use Rattle.pg_layout.specs.Position.{at}
use Rattle.pg_config.specs.Spans.{Span, corner, owner, is_left, left_span, span_above}
use Rattle.pg_picture.specs.Marks.{line, sep}
use Rattle.pg_picture.specs.Pieces.{Piece, written, style_at, block_line, Item, block, cut, Style}
use Rattle.pg_picture.specs.Table.{Table, vertical, vertical_at, block_at, row_part, crossing_at, border_items, separator_part}
use Rattle.pg_picture.specs.Fits.{cell_fits, TableFits}
use Rattle.pg_picture.specs.Inside.{columns_or_one, items_after, last_color, HasRoomFor, facts_of, place_of, text_line_at, line_if, placed_line}
use Rattle.pg_picture.proofs.PiecesOfLines.{written-append}
use Rattle.pg_picture.proofs.Ranges.{range-more, range-cut}
use Rattle.pg_picture.specs.Plain.{cell_line}
use Rattle.pg_picture.proofs.FittingTables.{row_part_plain}
use Rattle.pg_picture.proofs.OwnersOfPlaces.{InOrder, owner_alone, owner_found, size_alone}
use Rattle.pg_picture.proofs.FirstPlaces.{step-some}
use Rattle.pg_picture.proofs.WalksOfRows.{walk_step, row_part_end, row_part_left, row_part_inner, width_above-positive, width_above-inside, next_start, separator_part_inner, separator_part_border, separator_part_block, above_some}
use Rattle.pg_picture.proofs.DrawnRectangles.{single_line, single_room}
use Rattle.pg_layout.specs.Colors.{Color}
use Rattle.pg_config.specs.Config.{get_horizontal}
use Rattle.pg_picture.proofs.Separators.{items_after-append, items_after-one, last_color-append, last_color-one}
use Rattle.pg_peekable.specs.Inside.{starts, IsReading, IsCellLine}
use Rattle.pg_layout.specs.Text.{Text, lines_of}
use Rattle.pg_picture.proofs.PlacesOfTexts.{place_in-tall, place-lines, room-of-line, block_line-at, cell_fits-width}
use Rattle.pg_peekable.specs.declared.kept.Reading.{Reading}
use Rattle.pg_peekable.specs.declared.rectangle.Rectangle.{Rectangle}
use Rattle.std.specs.Borrow.{Bor}
use Rattle.std.specs.Option.{option_map, unwrap_or}

-- ---- what a column adds to a line of a row and to a separator

-- ---- what a column adds to a line of a row

module _ (t : Table) (none : t.config.spans ≡ []) where
  -- its vertical and its cell, in a table without spans
  pub part-text : (p : Position) (i : ℕ) → p.row < t.rows → p.col < t.columns → i < t.height p.row
      → written (vertical_at t.config t.columns (t.height p.row) p i) ++ written (block_line (style_at t.config p) (t.color p) (t.text p) (t.width p.col) (t.height p.row) i) ≡ written (row_part t p.row i p.col)
  part-text p i r l k =
      sym (ap written (row_part_plain t none p.row i p.col r k l) ∙ written-append (vertical t p.row i p.col) (cell_line t p.row p.col i))

-- behind the last column its vertical alone
pub end-text : (t : Table) (r i : ℕ) → written (vertical_at t.config t.columns (t.height r) (at r t.columns) i) ≡ written (row_part t r i t.columns)
end-text t r i = sym (ap written (row_part_end t r i))

-- what a left column adds where cells span rows or columns: its vertical and the line of its owner
module _ (t : Table) (order : InOrder t.config.spans t.rows t.columns) (p : Position) (i : ℕ) (r : p.row < t.rows) (l : p.col < t.columns) (k : i < t.height p.row) (left : is_left t.config.spans p.row p.col ≡ true) where
  left-text : (owned : List Piece) → block_at t (owner t.config.spans p.row p.col) (line p.row i) ≡ owned
      → written (vertical_at t.config t.columns (t.height p.row) p i) ++ written owned ≡ written (row_part t p.row i p.col)
  left-text owned is =
      ap (λ b. written (vertical_at t.config t.columns (t.height p.row) p i) ++ written b) (sym is)
      ∙ sym (ap written (row_part_left t order p.row i p.col left l) ∙ written-append (vertical t p.row i p.col) (block_at t (owner t.config.spans p.row p.col) (line p.row i)))

  -- of a cell of one row and one column
  pub single-text : left_span t.config.spans p.row p.col ≡ None
      → written (vertical_at t.config t.columns (t.height p.row) p i) ++ written (block_line (style_at t.config p) (t.color p) (t.text p) (t.width p.col) (t.height p.row) i) ≡ written (row_part t p.row i p.col)
  single-text none =
      let own = owner_alone t.config.spans t.rows t.columns order p.row p.col left none in
      let one = size_alone t.config.spans t.rows t.columns order p.row p.col none in
      left-text (block_line (style_at t.config p) (t.color p) (t.text p) (t.width p.col) (t.height p.row) i) (ap (λ q. block_at t q (line p.row i)) own ∙ single_line t p.row p.col one r i k)

  -- of a rectangle
  pub rectangle-text : (s : Span) → left_span t.config.spans p.row p.col ≡ Some s
      → written (vertical_at t.config t.columns (t.height p.row) p i) ++ written (block_at t (corner s) (line p.row i)) ≡ written (row_part t p.row i p.col)
  rectangle-text s some =
      left-text (block_at t (corner s) (line p.row i)) (ap (λ q. block_at t q (line p.row i)) (owner_found t.config.spans t.rows t.columns order p.row p.col s some))

  -- the cell has room in its column and its row
  pub single-room : TableFits t → left_span t.config.spans p.row p.col ≡ None → cell_fits (style_at t.config p) (t.text p) (t.width p.col) (t.height p.row) ≡ true
  single-room fits none =
      single_room t p.row p.col (size_alone t.config.spans t.rows t.columns order p.row p.col none) fits r l (owner_alone t.config.spans t.rows t.columns order p.row p.col left none)

-- the parts of k columns and of one more
pub written-columns : (f : ℕ → List Piece) (k : ℕ) → written (flat_map f (range_with_len 0 (k + 1))) ≡ written (flat_map f (range_with_len 0 k)) ++ written (f k)
written-columns f k =
    ap written (range-more f 0 k)
    ∙ written-append (flat_map f (range_with_len 0 k)) (f (0 + k))
    ∙ ap (λ n. written (flat_map f (range_with_len 0 k)) ++ written (f n)) (zero-add k)

-- the parts of n columns, cut at one of them
pub written-columns_cut : (f : ℕ → List Piece) (k n : ℕ) → k < n
    → written (flat_map f (range_with_len 0 n)) ≡ written (flat_map f (range_with_len 0 k)) ++ (written (f k) ++ written (flat_map f (range_with_len (0 + k + 1) (n - (k + 1)))))
written-columns_cut f k n here =
    ap written (range-cut f 0 k n here)
    ∙ written-append (flat_map f (range_with_len 0 k)) (f (0 + k) ++ flat_map f (range_with_len (0 + k + 1) (n - (k + 1))))
    ∙ ap (λ t. written (flat_map f (range_with_len 0 k)) ++ t) (written-append (f (0 + k)) (flat_map f (range_with_len (0 + k + 1) (n - (k + 1)))))
    ∙ ap (λ m. written (flat_map f (range_with_len 0 k)) ++ (written (f m) ++ written (flat_map f (range_with_len (0 + k + 1) (n - (k + 1)))))) (zero-add k)

-- the parts of x + w columns, of which those after x add nothing
written-walk : (f : ℕ → List Piece) (x w : ℕ) → 0 < w → ((y : ℕ) → x < y → y < x + w → f y ≡ [])
    → written (flat_map f (range_with_len 0 (x + w))) ≡ written (flat_map f (range_with_len 0 x)) ++ written (f x)
written-walk f x w some quiet = ap written (walk_step f x w some quiet) ∙ written-append (flat_map f (range_with_len 0 x)) (f x)

-- a step along a row, from a left column to the next one
pub step-text : (t : Table) (order : InOrder t.config.spans t.rows t.columns) (r x w : ℕ) → w ≡ columns_or_one (left_span t.config.spans r x) → is_left t.config.spans r x ≡ true → x < t.columns → (i : ℕ)
    → written (flat_map (row_part t r i) (range_with_len 0 (x + w))) ≡ written (flat_map (row_part t r i) (range_with_len 0 x)) ++ written (row_part t r i x)
step-text t order r x w is left here i =
    written-walk (row_part t r i) x w (step-some t.config.spans t.rows t.columns order r x w is left here) (λ y h k. row_part_inner t order r i x y left here h (omega (arith, k, is)))

-- ---- what a column adds to a separator where cells span rows or columns: a crossing, and a rectangle's line or a horizontal

-- a block behind other items: the cut before it, and its line
pub block-text : (c : Option Color) (items : List Item) {d : Option Color} (pieces : List Piece) {drawn : List Piece} → d ≡ last_color c items → drawn ≡ pieces
    → items_after c items ++ (cut d None ++ written drawn) ≡ items_after c (items ++ block pieces ∷ [])
block-text c items pieces last is =
    ap₂ (λ e p. items_after c items ++ (cut e None ++ written p)) last is
    ∙ sym (items_after-append c items (block pieces ∷ []) ∙ ap (λ x. items_after c items ++ x) (items_after-one (last_color c items) (block pieces)))

-- no colour is open after it
pub block-color : (c : Option Color) (items : List Item) (pieces : List Piece) → last_color c (items ++ block pieces ∷ []) ≡ None
block-color c items pieces = last_color-append c items (block pieces ∷ []) ∙ last_color-one (last_color c items) (block pieces)

module _ (t : Table) (order : InOrder t.config.spans t.rows t.columns) where
  pub found-above : (r x : ℕ) (s : Span) → span_above t.config.spans r x ≡ Some s → left_span t.config.spans r x ≡ Some s
  found-above r x s e = (above_some t order r x s e).found

  module _ (p : Position) (start : starts t.config.spans p.row p.col ≡ true) (here : p.col < t.columns) where
    -- where no rectangle from above stands
    pub border-items : span_above t.config.spans p.row p.col ≡ None
        → crossing_at t.config t.rows t.columns p ++ border_items t.config p t.rows (t.width p.col) (get_horizontal t.config p t.rows) ≡ separator_part t p.row p.col
    border-items none =
        sym (separator_part_border t order p.row p.col start here none)

    -- and where one does
    pub block-items : (s : Span) → span_above t.config.spans p.row p.col ≡ Some s
        → crossing_at t.config t.rows t.columns p ++ block (block_at t (corner s) (sep p.row)) ∷ [] ≡ separator_part t p.row p.col
    block-items s some =
        sym (separator_part_block t order p.row p.col s start here some)

  -- a step along a separator, from a start to the next one
  module _ (r x w : ℕ) (is : w ≡ columns_or_one (span_above t.config.spans r x)) (start : starts t.config.spans r x ≡ true) (here : x < t.columns) where
    pub above-some : 0 < w
    above-some = omega (arith, width_above-positive t order r x, is)

    pub above-inside : x + w ≤ t.columns
    above-inside = omega (arith, width_above-inside t order r x here, is)

    pub above-start : starts t.config.spans r (x + w) ≡ true
    above-start = subst (λ (k : ℕ). starts t.config.spans r (x + k) ≡ true) (sym is) (next_start t order r x start)

    pub above-parts : flat_map (separator_part t r) (range_with_len 0 (x + w)) ≡ flat_map (separator_part t r) (range_with_len 0 x) ++ separator_part t r x
    above-parts = walk_step (separator_part t r) x w above-some (λ y h k. separator_part_inner t order r x y start here h (omega (arith, k, is)))

-- ---- a line of a cell that has more, and lines that are read on from where the last one ended

-- ---- a line of a cell that has more: its text is placed, and read so far

module _ (t : Table) (r : Rectangle) (i : ℕ) (is : IsCellLine t r i) (reading : Reading) (reads : IsReading t r reading) where
  abbrev own : Style
  own = style_at t.config r.corner

  abbrev text : Text
  text = t.text r.corner

  tall : 0 < r.height
  tall = omega (arith, is.line)

  stands : reading.place ≡ place_of (facts_of own.formatting text) own r.width r.height
  stands = reads.place ∙ place_in-tall own text r.width r.height tall

  -- its place shows lines of the text
  pub tall-lines : reading.place.skip + reading.place.shown ≤ length (lines_of text)
  tall-lines = place-lines own text r.width r.height reading.place stands

  -- the line of it that was found by its place
  module _ {found text_line : Text} {which : Option ℕ} (same : found ≡ text) (at_place : which ≡ text_line_at reading.place i) (is_line : text_line ≡ line_if found which) where
    of_text : text_line ≡ line_if text (text_line_at reading.place i)
    of_text = is_line ∙ ap₂ line_if same at_place

    -- has room
    pub tall-room : HasRoomFor own reading.place r.width i text_line
    tall-room = λ below above. room-of-line own text r.width r.height i reading.place text_line stands of_text (cell_fits-width own text r.width r.height tall is.room) below above

    -- and is that of the cell's block
    pub tall-line : placed_line own (t.color r.corner) reading.place r.width i text_line ≡ block_line own (t.color r.corner) text r.width r.height i
    tall-line = block_line-at own (t.color r.corner) text r.width r.height i reading.place text_line stands of_text

-- ---- lines that are read on from where the last one ended

-- a lent line, or another where there is none
pub lent-or : (text_line : Option (Bor (List ℕ))) (other : Bor (List ℕ)) → (unwrap_or text_line other).now ≡ unwrap_or (option_map (λ x. x.now) text_line) other.now
lent-or None other = refl
lent-or (Some text_line) other = refl
