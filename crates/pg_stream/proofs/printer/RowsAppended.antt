-- What `row` appends, and the printer after it.
use Rattle.std.proofs.Common.{◌≡◌, ℕ, ◌+◌, ◌-◌, ◌^◌, ◌<◌, ◌≤◌, Bool, true, false, ◌==◌, nat_lt, List, [], ◌++◌, map, get_or, slice_index_or, length, Option, Some, None, IfSome, option_map, unwrap_or, refl, sym, ap, ap₂, ◌∙◌, arith, zero-add, subst, inl, inr, if◌then◌else◌, eqb-true}
use Rattle.std.specs.List.{range_with_len}
use Rattle.std.proofs.lemmas.Bool.{cases_Bool}
use Rattle.std.proofs.lemmas.Bool.Decides.{nat_tests}
use Rattle.std.proofs.lemmas.List.{length-map}
use Rattle.pg_layout.specs.declared.position.Position.{Position}
use Rattle.pg_layout.specs.Position.{at}
use Rattle.pg_layout.specs.Text.{Text}
use Rattle.pg_config.specs.Config.{has_horizontal}
use Rattle.pg_config.specs.Spans.{Span, rect_rows, owner}
use Rattle.pg_picture.specs.Fits.{spans_fit, totals_fit}
use Rattle.pg_picture.specs.Pieces.{continued, written, separator_text}
use Rattle.pg_picture.specs.Marks.{Mark, sep, line, only_if, marks_of_row, marks_above, body}
use Rattle.pg_picture.specs.Picture.{top_lines, body_lines}
use Rattle.pg_picture.specs.Table.{Table, Hint, mark_text, table_body}
use Rattle.pg_picture.proofs.Pictures.{body_lines-append, length-body_lines, continued-append, length-top}
use Rattle.pg_picture.proofs.Owners.{Apart, owner-ends}
use Rattle.pg_stream.specs.Conditions.{HaveRoom}
use Rattle.pg_stream.specs.Inside.{open_lines, open_line, open_separator, above_text, top_text, draw_cell, separator_height, slot_line, slot_separator, close_cell, cells_closed}
use Rattle.pg_stream.specs.Open.{Slot, open_before}
use Rattle.pg_stream.specs.Placed.{Placed, slots_of, AllOpen, IsPlaced}
use Rattle.pg_stream.specs.Printers.{IsSound}
use Rattle.pg_stream.specs.Printing.{Printing, hint_of, rows_known, rows_reached, text_known, table_known, lines_at, lines_printed, row_lines, row_text, after_row}
use Rattle.pg_stream.proofs.draw.OpenLists.{closed-is, drawn-all, all-open, one-open, partly-all, partly-length, partly-below}
use Rattle.pg_stream.proofs.DrawnLines.{length_of_row}
use Rattle.pg_stream.proofs.draw.OwnersOfCells.{open_line-slots, open_separator-slots}
use Rattle.pg_stream.proofs.draw.LinesOfSlots.{line_of_row-slots, separator-slots}
use Rattle.pg_stream.proofs.printer.RowsPrinted.{Stands, Stands-after, length-separator, slots-are, stands, apart, owners, owner-above, owner-drawn-now, cells_now, whole-now, placed-now}
use Rattle.pg_stream.proofs.printer.RowsOfTables.{KnowsHeight, lines-text, above-mark, top-margin, other, owner-reached, row_inside_body}
use Rattle.pg_stream.proofs.draw.Beginning.{slots-of-row, slots-after}

-- ---- the cells that are left

length-closed : (spans : List Span) (k : ℕ) (cells : List (Option Placed)) → length (cells_closed spans k cells) ≡ length cells
length-closed spans k cells =
    ap length (sym (closed-is spans k cells)) ∙ ap length (sym (partly-all (close_cell spans k) 0 (length cells) cells (omega arith))) ∙ partly-length (close_cell spans k) 0 (length cells) cells

closed-all : (P : ℕ → Placed → Type 0) (spans : List Span) (k : ℕ) (cells : List (Option Placed)) → AllOpen P cells → AllOpen P (cells_closed spans k cells)
closed-all P spans k cells all =
    all-open P (cells_closed spans k cells) (λ x c h here.
    let inside : x < length cells = omega (arith, h, length-closed spans k cells) in
    let e : get_or (cells_closed spans k cells) x None ≡ close_cell spans k x (get_or cells x None) =
    ap (λ l. get_or l x None) (sym (closed-is spans k cells) ∙ sym (partly-all (close_cell spans k) 0 (length cells) cells (omega arith)))
    ∙ partly-below (close_cell spans k) 0 (length cells) cells x None inside inside ∙ ap (λ n. close_cell spans k n (get_or cells x None)) (zero-add x) in
    one-open P cells all x c (was spans k x (get_or cells x None) c (sym e ∙ here)))
  where
    was_by : (b : Bool) (a c : Placed) → (if b then Some a else None) ≡ Some c → Some a ≡ Some c
    was_by true a c e = e
    was_by false a c e = cc

    was : (spans : List Span) (k x : ℕ) (o : Option Placed) (c : Placed) → close_cell spans k x o ≡ Some c → o ≡ Some c
    was spans k x None c e = e
    was spans k x (Some a) c e = was_by (nat_lt (k + 1) (a.begun + rect_rows spans (at a.begun x))) a c e

-- ---- the number of rows that is known

module _ (t : Table) (k : ℕ) where
  abbrev known_by : Bool → Option ℕ → ℕ
  known_by b o = if b then k + 1 else unwrap_or o (rows_reached t.config.spans k)

  under_by : (b : Bool) (o : Option ℕ) → IfSome o (λ rows. (k < rows) × (b ≡ ((k + 1) == rows))) → k < known_by b o
  unfolding rows_reached
  under_by true o h = omega arith
  under_by false (Some m) h = h.0
  under_by false None h = omega arith

  ends_by : (b : Bool) (o : Option ℕ) → Apart t.config.spans → (b ≡ true → spans_fit t.config.spans (k + 1) t.columns ≡ true) → IfSome o (λ rows. spans_fit t.config.spans rows t.columns ≡ true) → IfSome o (λ rows. (k < rows) × (b ≡ ((k + 1) == rows)))
      → (c : ℕ) → (owner t.config.spans k c).row + rect_rows t.config.spans (owner t.config.spans k c) ≤ known_by b o
  ends_by true o apart last spans h c = owner-ends t.config.spans (k + 1) t.columns apart (last refl) k c (omega arith)
  ends_by false (Some m) apart last spans h c = owner-ends t.config.spans m t.columns apart spans k c h.0
  ends_by false None apart last spans h c = owner-reached t.config.spans apart k c

  knows_by : (b : Bool) (o : Option ℕ) (height : Option ℕ) (f : Position → Text) → height ≡ option_map (λ rows. length (table_body (record t { rows = rows }))) o → IfSome o (λ rows. (k < rows) × (b ≡ ((k + 1) == rows)))
      → KnowsHeight (hint_of o) (length (table_body (other t (known_by b o) f))) height
  unfolding KnowsHeight table_body
  knows_by true (Some m) height f e h = let same : k + 1 ≡ m = eqb-true (k + 1) m (sym h.1) in e ∙ ap (λ n. Some (length (body t.config t.height n))) (sym same)
  knows_by false (Some m) height f e h = e
  knows_by true None height f e h = e
  knows_by false None height f e h = e

-- ---- a row

printed-none : (s : Printing) → s.rows ≡ 0 → lines_printed s ≡ 0
unfolding lines_printed
printed-none s none = rw none refl

told : (k x : ℕ) (slots : List (Option Slot)) (texts : List Text) → text_known k slots texts (at k x) ≡ slice_index_or texts x []
unfolding text_known
told k x slots texts = let e : (k == k) ≡ true = grind (arith, nat_tests) in rw e refl

module _ (s : Printing) (w : ℕ) (height : Option ℕ) (cells : List (Option Placed)) (slots : s.slots ≡ slots_of cells) (sound : IsSound s s.table w height cells) (is_last : Bool) (hinted : IfSome s.hint (λ rows. (s.rows < rows) × (is_last ≡ ((s.rows + 1) == rows)))) (last : is_last ≡ true → spans_fit s.table.config.spans (s.rows + 1) s.table.columns ≡ true) where
  abbrev t : Table
  t = s.table

  abbrev k : ℕ
  k = s.rows

  abbrev m : ℕ
  m = if is_last then s.rows + 1 else unwrap_or s.hint (rows_reached s.table.config.spans s.rows)

  fitting : (Q : ℕ → Type 0) (o : Option ℕ) → IfSome o (λ rows. (spans_fit s.table.config.spans rows s.table.columns ≡ true) × Q rows) → IfSome o (λ rows. spans_fit s.table.config.spans rows s.table.columns ≡ true)
  fitting Q None h = tt
  fitting Q (Some n) h = h.0

  under : k < m
  under = under_by t k is_last s.hint hinted

  ends : (c : ℕ) → (owner s.table.config.spans k c).row + rect_rows s.table.config.spans (owner s.table.config.spans k c) ≤ m
  ends = ends_by t k is_last s.hint (apart s w height cells slots sound) last (fitting (λ rows. totals_fit (record t { rows = rows }) ≡ true) s.hint sound.fits.hint) hinted

  module _ (texts : List Text) where
    abbrev f : Position → Text
    f = text_known s.rows s.slots texts

    knows : KnowsHeight (hint_of s.hint) (length (table_body (other t m f))) height
    knows = knows_by t k is_last s.hint height f sound.high hinted

    all-slots : slots_of cells ≡ open_before (other t m f) k
    unfolding table_known
    all-slots = slots-are s w height cells slots sound m texts

    -- the lines that are drawn off the cells are the table's
    line-text : (i : ℕ) → i < s.table.height k → mark_text (other t m f) (line k i) ≡ written (open_line t (map (draw_cell i) (cells_now s w height cells slots sound texts)) k i)
    unfolding mark_text
    line-text i l =
        ap written (line_of_row-slots (other t m f) (owners s w height cells slots sound) k under ends i l
        ∙ ap (λ x. slot_line (other t m f) x k i) (sym (slots-of-row t m f k texts (λ x h. told k x s.slots texts) cells all-slots i))
        ∙ sym (open_line-slots t m f (owners s w height cells slots sound) k (map (draw_cell i) (cells_now s w height cells slots sound texts)) (owner-drawn-now s w height cells slots sound texts i) i))

    separator-is : has_horizontal s.table.config k (k + 1) ≡ true → mark_text (other t m f) (sep k) ≡ separator_text (open_separator t (k + 1) cells k)
    unfolding mark_text
    separator-is there =
        ap separator_text (separator-slots (other t m f) (owners s w height cells slots sound) k under there ends
        ∙ ap (λ x. slot_separator (other t m f) x k) (sym all-slots)
        ∙ sym (open_separator-slots t m f (owners s w height cells slots sound) k cells (owner-above s w height cells slots sound) under))

    inside : s.lines + length (marks_of_row s.table.config s.table.height k) ≤ length (table_body (other t m f))
    unfolding table_body
    inside = let e = row_inside_body s.table.config s.table.height k m under in omega (arith, e, sound.lines)

    printed-is : lines_printed s + length (if k == 0 then top_lines (other t m f) else []) ≡ s.table.config.margin.top.size + s.lines
    unfolding lines_printed marks_above
    printed-is =
        elim (cases_Bool (k == 0)) [
          | inl e ↦
              let none : s.lines ≡ 0 = sound.lines ∙ ap (λ n. length (marks_above s.table.config s.table.height n)) (eqb-true k 0 e) in
              let size = length-top (other t m f) in
              rw e (omega (arith, none, size))
          | inr e ↦ rw e (omega arith)
        ]

    lines-of-row :
        continued (s.table.config.margin.top.size + s.lines) (body_lines (hint_of s.hint) (other t m f) s.lines (marks_of_row s.table.config s.table.height k))
        ≡ above_text t height cells k s.lines ++ open_lines t height (cells_now s w height cells slots sound texts) k (s.lines + separator_height s.table.config k) (s.table.height k)
    unfolding marks_of_row
    lines-of-row =
        let hint : Hint = hint_of s.hint in
        let T : Table = other t m f in
        let top : ℕ = s.table.config.margin.top.size in
        let i : ℕ = s.lines in
        let xs : List Mark = only_if (has_horizontal s.table.config k (k + 1)) (sep k) in
        let ys : List Mark = map (line k) (range_with_len 0 (s.table.height k)) in
        let count = length-separator s.table.config k in
        let both = length_of_row s.table.config s.table.height k in
        let room = inside in
        let drawn = length-body_lines hint T i xs in
        let h : ℕ = length (table_body T) in
        ap (λ l. continued (top + i) l) (body_lines-append hint T i xs ys)
        ∙ continued-append (top + i) (body_lines hint T i xs) (body_lines hint T (i + length xs) ys)
        ∙ ap₂ (λ (a b : Text). a ++ b)
        (above-mark hint t m f k i height h knows cells (has_horizontal s.table.config k (k + 1)) refl (omega (arith, count, both, room)) refl separator-is)
        (ap₂ (λ (p q : ℕ). continued p (body_lines hint T q ys)) (let e : (top + i) + length (body_lines hint T i xs) ≡ top + (i + separator_height s.table.config k) = omega (arith, drawn, count) in e) (ap (λ n. i + n) count)
        ∙ lines-text hint t m f k (i + separator_height s.table.config k) height h knows (cells_now s w height cells slots sound texts) (omega (arith, both, room)) refl line-text)

    -- the text of the row
    pub row_text-is :
        top_text s.table.config w k ++ (above_text t height cells k s.lines ++ open_lines t height (cells_now s w height cells slots sound texts) k (s.lines + separator_height s.table.config k) (s.table.height k)) ≡ row_text s texts is_last
    unfolding row_text row_lines rows_known table_known lines_at
    row_text-is =
        let T : Table = other t m f in
        let A : List Text = if k == 0 then top_lines T else [] in
        let B : List Text = body_lines (hint_of s.hint) T s.lines (marks_of_row s.table.config s.table.height k) in
        sym (continued-append (lines_printed s) A B
        ∙ ap₂ (λ (a b : Text). a ++ b) (top-margin t m f w k (lines_printed s) sound.full (printed-none s))
        (ap (λ n. continued n B) printed-is ∙ lines-of-row))

    -- ---- the printer after it

    abbrev pub cells_left : List (Option Placed)
    cells_left = cells_closed s.table.config.spans k (map (draw_cell (s.table.height k)) (cells_now s w height cells slots sound texts))

    abbrev pub next : Printing
    next = record s { rows = s.rows + 1; lines = (s.lines + separator_height s.table.config k) + s.table.height k; is_ended = is_last; slots = slots_of cells_left }

    slots-now : slots_of cells ≡ open_before (other t (s.rows + 1) f) k
    unfolding table_known
    slots-now = slots-are s w height cells slots sound (s.rows + 1) texts

    pub after-is : next ≡ after_row s texts is_last
    unfolding after_row table_known
    after-is =
        ap₂ (λ (lines : ℕ) (slots : List (Option Slot)). record s { rows = s.rows + 1; lines = lines; is_ended = is_last; slots = slots })
        (let both = length_of_row s.table.config s.table.height k in omega (arith, both))
        (slots-after t (s.rows + 1) f k texts (λ x h. told k x s.slots texts) cells slots-now (owners s w height cells slots sound))

    stands-next : Stands next
    stands-next = subst Stands (sym after-is) (Stands-after s texts is_last (stands s w height cells slots sound))

    hinted-next : (o : Option ℕ) → IfSome o (λ rows. (s.rows < rows) × (is_last ≡ ((s.rows + 1) == rows))) → IfSome o (λ rows. (s.rows + 1 ≤ rows) × (is_last ≡ true → s.rows + 1 ≡ rows))
    hinted-next None h = tt
    hinted-next (Some n) h = (let l = h.0 in omega (arith, l), λ e. eqb-true (s.rows + 1) n (sym h.1 ∙ e))

    pub sound-next : HaveRoom t k texts → s.rows < 2 ^ 64 - 2 → IsSound next next.table w height cells_left
    sound-next rooms few = record {
      fits = record { some = sound.fits.some; few = sound.fits.few; spans = sound.fits.spans; width = sound.fits.width; hint = sound.fits.hint };
      full = sound.full;
      high = sound.high;
      whole = whole-now s w height cells slots sound texts ∙ sym (length-map (cells_now s w height cells slots sound texts) (draw_cell (s.table.height k))) ∙ sym (length-closed s.table.config.spans k (map (draw_cell (s.table.height k)) (cells_now s w height cells slots sound texts)));
      slots = stands-next.slots;
      lines = stands-next.lines;
      placed = closed-all (IsPlaced t) s.table.config.spans k (map (draw_cell (s.table.height k)) (cells_now s w height cells slots sound texts))
          (drawn-all (IsPlaced t) (IsPlaced t) (s.table.height k) (cells_now s w height cells slots sound texts) (λ x c h. record { width = h.width; place = h.place; room = h.room }) (placed-now s w height cells slots sound texts rooms));
      few = omega (arith, few);
      hinted = hinted-next s.hint hinted;
      ended = last;
    }

-- the same lines, of cells and an index that are equal
pub open_lines-same : (t : Table) (height : Option ℕ) (k n : ℕ) {a b : List (Option Placed)} {i j : ℕ} → a ≡ b → i ≡ j → open_lines t height a k i n ≡ open_lines t height b k j n
open_lines-same t height k n e f = ap₂ (λ (x : List (Option Placed)) (i : ℕ). open_lines t height x k i n) e f
