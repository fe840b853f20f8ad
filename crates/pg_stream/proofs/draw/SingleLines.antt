-- Rows of one line in a table without spans.
use Rattle.std.proofs.Common.{◌≡◌, ℕ, ◌+◌, ◌^◌, ◌<◌, true, [], ◌∙◌, refl, sym, subst, arith, inl, inr, ◌-◌, List, ◌++◌, flat_map, slice_index_or, Option, ap, append_assoc, zero, suc, false, nat_lt, ◌∷◌, map, length, replicate, get_or, Some, None, ap₂, add-zero, zero-add}
use Rattle.std.proofs.lemmas.Bool.{cases_lt}
use Rattle.std.proofs.lemmas.Bool.Decides.{nat_tests}
use Rattle.pg_layout.specs.declared.position.Position.{Position}
use Rattle.pg_layout.specs.Position.{at, is_at}
use Rattle.pg_layout.specs.Text.{Text}
use Rattle.pg_config.specs.Spans.{owner, rect_rows}
use Rattle.pg_picture.specs.Fits.{cell_fits}
use Rattle.pg_picture.specs.Pieces.{style_at, Piece, Style, block_line, written}
use Rattle.pg_picture.specs.Sizes.{height_of_rect}
use Rattle.pg_picture.specs.Table.{Table, vertical}
use Rattle.pg_picture.proofs.MarksOfRectangles.{rect_height-of_rect}
use Rattle.pg_picture.proofs.FittingTables.{owner_plain, rect_rows_plain, rect_width_plain, rect_height_plain}
use Rattle.pg_stream.specs.Conditions.{HasRoom}
use Rattle.std.specs.List.{range_with_len}
use Rattle.pg_layout.specs.Colors.{Color}
use Rattle.pg_picture.proofs.PiecesOfLines.{written-append}
use Rattle.pg_stream.specs.Inside.{single_part, single_line, open_part, open_line, line_at, open_lines, open_line_at, draw_cell, slot_block}
use Rattle.pg_stream.proofs.draw.PartsOfLines.{written-columns_cut, drawn-none, lines-none, lines-more, line-now}
use Rattle.std.proofs.lemmas.List.{length-map}
use Rattle.pg_stream.specs.Open.{Slot, open_at_row, open_before}
use Rattle.pg_stream.specs.Placed.{Placed, slot_of, slots_of}
use Rattle.pg_stream.specs.Inside.{new_cell, begin_cell, close_cell, mapped, cells_begun, cells_closed}
use Rattle.pg_stream.proofs.draw.OpenLists.{drawn-at, partly-all, partly-below}
use Rattle.pg_stream.proofs.draw.OwnersOfCells.{columns-same}
use Rattle.pg_stream.proofs.draw.Steps.{open_none}
use Rattle.pg_stream.proofs.printer.WholePictures.{map_range-same, no_slots}

-- ---- without spans each cell is as wide as its column and as high as its row

module _ (t : Table) (none : t.config.spans ≡ []) (k : ℕ) where
  pub own-plain : (x : ℕ) → is_at (owner t.config.spans k x) k x ≡ true
  own-plain x = rw (owner_plain t none k x) (grind (arith, nat_tests))

  pub height-plain : (x : ℕ) → height_of_rect t.config t.height (at k x) ≡ t.height k
  height-plain x =
      let T : Table = record t { rows = k + 1 } in
      let rows : rect_rows t.config.spans (at k x) ≡ 1 = rect_rows_plain t none (at k x) in
      sym (rect_height-of_rect T (at k x) (omega (arith, rows)) (omega (arith, rows))) ∙ rect_height_plain T none (at k x) (omega arith)

  -- so a text has room there if it fits a cell of these sizes
  pub plain-room-from : (x : ℕ) (text : Text) → k + 1 < 2 ^ 64 → t.width x < 2 ^ 64 → t.height k < 2 ^ 64 → cell_fits (style_at t.config (at k x)) text (t.width x) (t.height k) ≡ true → HasRoom t (at k x) text
  plain-room-from x text row wide high fits =
      record {
        end = rw (rect_rows_plain t none (at k x)) row;
        width = rw (rect_width_plain t none (at k x)) wide;
        height = rw (height-plain x) high;
        room = rw (rect_width_plain t none (at k x), height-plain x) fits;
      }

  pub plain-room-fits : (x : ℕ) (text : Text) → HasRoom t (at k x) text → cell_fits (style_at t.config (at k x)) text (t.width x) (t.height k) ≡ true
  plain-room-fits x text room = rw (rect_width_plain t none (at k x), height-plain x) at room.room

-- a test by the sizes that were asked is one by the table's
pub fits-in : (t : Table) (k x : ℕ) (text : Text) (p : Position) → p ≡ at k x → (w : ℕ) → w ≡ t.width x → (h : ℕ) → h ≡ t.height k → cell_fits (style_at t.config p) text w h ≡ cell_fits (style_at t.config (at k x)) text (t.width x) (t.height k)
fits-in t k x text p place w wide h high = rw (place, wide, high) refl

-- what holds before n and at n holds up to n
pub up-to : (P : ℕ → Type 0) (n : ℕ) → ((x : ℕ) → x < n → P x) → P n → (x : ℕ) → x < n + 1 → P x
up-to P n before here x h =
    elim (cases_lt x n) [
      | inl less ↦ before x less
      | inr more ↦ let same : n ≡ x = omega (arith, h, more) in subst P same here
    ]

-- ---- the text of a row of one line in a table without spans: of no cell, of some and of one more; and the room of its cells

module _ (t : Table) (k : ℕ) where
  -- a cell's vertical and its line
  pub part-text : (x : ℕ) (p : Position) (style : Style) (color : Option Color) (width : ℕ) (text : Text) → p ≡ at k x → style ≡ style_at t.config p → color ≡ t.color p → width ≡ t.width x
      → written (vertical t p.row 0 p.col) ++ written (block_line style color text width 1 0) ≡ written (single_part t k text x)
  unfolding single_part
  part-text x p style color width text here is-style is-color is-width =
      rw (is-style, is-color, is-width, here) (sym (written-append (vertical t k 0 x) (block_line (style_at t.config (at k x)) (t.color (at k x)) text (t.width x) 1 0)))

  -- it has room in one line
  pub part-room : t.config.spans ≡ [] → t.height k ≡ 1 → (x : ℕ) (p : Position) (width : ℕ) (text : Text) → p ≡ at k x → width ≡ t.width x → HasRoom t (at k x) text → cell_fits (style_at t.config p) text width 1 ≡ true
  part-room none one x p width text here is-width room =
      rw (here, is-width) (subst (λ h. cell_fits (style_at t.config (at k x)) text (t.width x) h ≡ true) one (plain-room-fits t none k x text room))

  module _ (texts : List Text) where
    abbrev part : ℕ → List Piece
    part x = single_part t k (slice_index_or texts x []) x

    pub single-cut : (i : ℕ) → i < t.columns
        → written (single_line t k texts) ≡ written (flat_map part (range_with_len 0 i)) ++ (written (part i) ++ (written (flat_map part (range_with_len (0 + i + 1) (t.columns - (i + 1)))) ++ written (vertical t k 0 t.columns)))
    unfolding single_line
    single-cut i here =
        written-append (flat_map part (range_with_len 0 t.columns)) (vertical t k 0 t.columns)
        ∙ ap (λ x. x ++ written (vertical t k 0 t.columns)) (written-columns_cut part i t.columns here)
        ∙ append_assoc (written (flat_map part (range_with_len 0 i))) (written (part i) ++ written (flat_map part (range_with_len (0 + i + 1) (t.columns - (i + 1))))) (written (vertical t k 0 t.columns))
        ∙ ap (λ x. written (flat_map part (range_with_len 0 i)) ++ x) (append_assoc (written (part i)) (written (flat_map part (range_with_len (0 + i + 1) (t.columns - (i + 1))))) (written (vertical t k 0 t.columns)))

    pub single-end : (n : ℕ) → n ≡ t.columns → written (flat_map part (range_with_len 0 n)) ++ written (vertical t k 0 t.columns) ≡ written (single_line t k texts)
    unfolding single_line
    single-end n all =
        ap (λ m. written (flat_map part (range_with_len 0 m)) ++ written (vertical t k 0 t.columns)) all ∙ sym (written-append (flat_map part (range_with_len 0 t.columns)) (vertical t k 0 t.columns))

-- ---- a row of one line in a table without spans: its line is that of its cells, and none of them goes on below it

module _ {A : Type 0} (f : ℕ → A → A) where
  mapped-at : (xs : List A) (i : ℕ) (d : A) → i < length xs → get_or (mapped f 0 xs) i d ≡ f i (get_or xs i d)
  mapped-at xs i d here =
      ap (λ (ys : List A). get_or ys i d) (sym (partly-all f 0 (length xs) xs (omega arith)))
      ∙ partly-below f 0 (length xs) xs i d here here
      ∙ ap (λ n. f n (get_or xs i d)) (zero-add i)

  -- a list whose elements all become the same
  mapped-same : (c : ℕ) (xs : List A) (d : A) → ((i : ℕ) → i < length xs → f (c + i) (get_or xs i d) ≡ d) → mapped f c xs ≡ replicate (length xs) d
  mapped-same c [] d h = refl
  mapped-same c (x ∷ xs) d h =
      ap₂ (λ y ys. y ∷ ys) (ap (λ n. f n x) (sym (add-zero c)) ∙ h 0 (omega arith))
      (mapped-same (c + 1) xs d (λ i l. ap (λ n. f n (get_or xs i d)) (let e : (c + 1) + i ≡ c + suc i = omega arith in e) ∙ h (suc i) (omega (arith, l))))

length-mapped : {A : Type 0} (f : ℕ → A → A) (c : ℕ) (xs : List A) → length (mapped f c xs) ≡ length xs
length-mapped f c [] = refl
length-mapped f c (x ∷ xs) = ap suc (length-mapped f (c + 1) xs)

-- slots without cells are none
none-open : (cells : List (Option Placed)) (n : ℕ) → slots_of cells ≡ replicate n None → cells ≡ replicate n None
none-open [] zero e = refl
none-open [] (suc n) e = let clash : [] ≡ None ∷ replicate n None = e in cc
none-open (cell ∷ cells) zero e = let clash : slot_of cell ∷ slots_of cells ≡ [] = e in cc
none-open (None ∷ cells) (suc n) e = let rest : slots_of cells ≡ replicate n None = cc in ap (λ l. None ∷ l) (none-open cells n rest)
none-open (Some cell ∷ cells) (suc n) e = let first : slot_of (Some cell) ≡ None = cc in absurd (some-none first)
  where
    some-none : {slot : Slot} → Some slot ≡ None → ⊥
    some-none e = cc

drawn-nothing : (d n : ℕ) → map (draw_cell d) (replicate n None) ≡ replicate n None
drawn-nothing d zero = refl
drawn-nothing d (suc n) = ap (λ l. None ∷ l) (drawn-nothing d n)

module _ (t : Table) (none : t.config.spans ≡ []) (k : ℕ) where
  -- no cell is open above a row
  pub none-above : (cells : List (Option Placed)) → slots_of cells ≡ open_before t k → cells ≡ replicate t.columns None
  unfolding open_before
  none-above cells is =
      none-open cells t.columns (is ∙ map_range-same (open_at_row t k) (λ c. None) 0 t.columns (λ c a b. open_none t k c (λ above left. let row = ap (λ (p : Position). p.row) (owner_plain t none k c) in omega (arith, above, row))) ∙ no_slots 0 t.columns)

  module _ (one : t.height k ≡ 1) where
    pub height-one : (x : ℕ) → height_of_rect t.config t.height (at k x) ≡ 1
    height-one x = height-plain t none k x ∙ one

    begun-at : (cells : List (Option Placed)) (texts : List Text) (x : ℕ) → x < length cells → get_or (cells_begun t k texts cells) x None ≡ Some (new_cell t (at k x) (slice_index_or texts x []))
    unfolding cells_begun begin_cell
    begun-at cells texts x here = mapped-at (λ c. begin_cell t k (slice_index_or texts c []) c) cells x None here ∙ (rw (own-plain t none k x) refl)

    new-block : (x : ℕ) (text : Text) → slot_block t (slot_of (Some (new_cell t (at k x) text))) x ≡ block_line (style_at t.config (at k x)) (t.color (at k x)) text (t.width x) 1 0
    new-block x text = ap₂ (λ w h. block_line (style_at t.config (at k x)) (t.color (at k x)) text w h 0) (rect_width_plain t none (at k x)) (height-one x)

    module _ (cells : List (Option Placed)) (texts : List Text) (whole : t.columns ≡ length cells) where
      abbrev begun : List (Option Placed)
      begun = cells_begun t k texts cells

      part-is : (x : ℕ) → x < length cells → single_part t k (slice_index_or texts x []) x ≡ open_part t begun k 0 x
      unfolding single_part open_part
      part-is x here = rw (begun-at cells texts x here) (ap (λ l. vertical t k 0 x ++ l) (sym (new-block x (slice_index_or texts x []))))

      line-is : single_line t k texts ≡ open_line t begun k 0
      unfolding single_line open_line
      line-is = ap (λ l. l ++ vertical t k 0 t.columns) (columns-same (λ x. single_part t k (slice_index_or texts x []) x) (open_part t begun k 0) 0 t.columns (λ x a b. part-is x (omega (arith, b, whole))))

      -- the lines of the row are its one line
      pub lines-are : (height : Option ℕ) (index : ℕ) → line_at t.config height index (written (single_line t k texts)) ≡ open_lines t height begun k index (t.height k)
      lines-are height index =
          ap₂ (λ i l. line_at t.config height i (written l)) (sym (add-zero index)) line-is
          ∙ line-now t height begun k index 0 begun (drawn-none begun)
          ∙ ap (λ s. s ++ open_line_at t height begun k index 0) (lines-none t height begun k index)
          ∙ sym (lines-more t height begun k index 0)
          ∙ ap (λ n. open_lines t height begun k index n) (sym one)

      left-none : (x : ℕ) → x < length cells → close_cell t.config.spans k x (get_or (map (draw_cell (t.height k)) begun) x None) ≡ None
      left-none x here =
          let rows : rect_rows t.config.spans (at k x) ≡ 1 = rect_rows_plain t none (at k x) in
          let past : nat_lt (k + 1) (k + rect_rows t.config.spans (at k x)) ≡ false = grind (arith, nat_tests, rows) in
          ap (λ o. close_cell t.config.spans k x o) (drawn-at (t.height k) begun x ∙ ap (λ o. draw_cell (t.height k) o) (begun-at cells texts x here)) ∙ (rw past refl)

      length-drawn : length (map (draw_cell (t.height k)) begun) ≡ length cells
      unfolding cells_begun
      length-drawn = length-map begun (draw_cell (t.height k)) ∙ length-mapped (λ c. begin_cell t k (slice_index_or texts c []) c) 0 cells

      left-are : cells_closed t.config.spans k (map (draw_cell (t.height k)) begun) ≡ replicate t.columns None
      unfolding cells_closed
      left-are =
          mapped-same (close_cell t.config.spans k) 0 (map (draw_cell (t.height k)) begun) None (λ x here. ap (λ n. close_cell t.config.spans k n (get_or (map (draw_cell (t.height k)) begun) x None)) (zero-add x) ∙ left-none x (omega (arith, here, length-drawn)))
          ∙ ap (λ n. replicate n None) (length-drawn ∙ sym whole)

    -- none of the row's cells goes on below it
    pub left-as-above : (cells : List (Option Placed)) (d : ℕ) (texts : List Text) → cells ≡ replicate t.columns None → t.columns ≡ length (map (draw_cell d) cells)
        → map (draw_cell d) cells ≡ cells_closed t.config.spans k (map (draw_cell (t.height k)) (cells_begun t k texts (map (draw_cell d) cells)))
    left-as-above cells d texts is whole =
        ap (λ l. map (draw_cell d) l) is ∙ drawn-nothing d t.columns ∙ sym (left-are (map (draw_cell d) cells) texts whole)
