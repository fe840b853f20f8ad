-- What is true of a printer between its calls, what a call finds, and what it leaves.
use Rattle.std.proofs.Common.{◌≡◌, ℕ, ◌+◌, ◌<◌, Bool, false, ◌&&◌, ◌==◌, nat_lt, List, [], length, length-append, Option, Some, None, refl, sym, ap, ◌∙◌, arith, add-one, inl, inr, eqb-true, ◌^◌, ◌≤◌, true, map, get_or, slice_index_or, IfSome, zero-add, subst, if◌then◌else◌}
use Rattle.std.proofs.lemmas.Bool.{cases_Bool, ltb-true, and_parts}
use Rattle.std.proofs.lemmas.Bool.Decides.{nat_tests}
use Rattle.pg_layout.specs.declared.position.Position.{Position}
use Rattle.pg_layout.specs.Text.{Text}
use Rattle.pg_config.specs.Spans.{owner, rect_rows, rect_columns}
use Rattle.pg_picture.specs.Marks.{marks_of_row, marks_above, Mark, sep, only_if, stands_within}
use Rattle.pg_picture.specs.Table.{Table}
use Rattle.pg_stream.specs.Open.{Slot, slot_text, drawn_before, open_at_row, open_before}
use Rattle.pg_stream.specs.Printing.{Printing, text_known, table_known, after_row}
use Rattle.pg_stream.proofs.draw.Steps.{open_value, open_none}
use Rattle.pg_stream.proofs.printer.WholePictures.{at_range, map_range-same}
use Rattle.std.proofs.lemmas.List.{length-map}
use Rattle.std.proofs.lemmas.List.Sums.{length-filter, count_by-le-length}
use Rattle.pg_layout.specs.Position.{at, is_at}
use Rattle.pg_config.specs.Config.{Config, has_horizontal}
use Rattle.pg_picture.specs.Sizes.{height_of_rect}
use Rattle.pg_picture.proofs.Owners.{Apart, HasOwners, apart_from, owners_of}
use Rattle.pg_stream.specs.Conditions.{HaveRoom}
use Rattle.pg_stream.specs.Placed.{Placed, slots_of, AllOpen, IsPlaced}
use Rattle.pg_stream.specs.Inside.{draw_cell, IsTall, AreDrawn, separator_height, IsOwnerAbove, new_cell, begin_cell, cells_begun}
use Rattle.pg_stream.specs.Printers.{IsSound}
use Rattle.pg_stream.proofs.draw.Beginning.{begun-is, inside-columns, owner-begun}
use Rattle.pg_stream.proofs.draw.OpenLists.{placed-new, drawn-at, drawn-all, all-open, partly, partly-all, partly-length, partly-below}
use Rattle.pg_stream.proofs.DrawnLines.{drawn-first, drawn-more}
use Rattle.pg_stream.proofs.draw.OwnersOfCells.{open-at, owner-open, owner-drawn, drawn-le, IsOwner}

-- ---- what is true of each printer between its calls

-- the open cells are those of the table whose texts they have themselves
pub record Stands (s : Printing) : Type 0 where
  pub slots : s.slots ≡ open_before (table_known s s.rows []) s.rows
  pub lines : s.lines ≡ length (marks_above s.table.config s.table.height s.rows)

-- an open cell's text is that of its slot
text_kept : (t : Table) (k c : ℕ) (p : Position) → owner t.config.spans k c ≡ p → c < t.columns → p.row < k → p.col ≡ c → text_known k (open_before t k) [] p ≡ t.text p
unfolding text_known open_before
text_kept t k c p own inside above left =
    let other : (p.row == k) ≡ false = grind (arith, nat_tests, above) in
    rw other (ap (λ (o : Option Slot). slot_text o) (at_range (open_at_row t k) t.columns p.col None (omega (arith, left, inside))
    ∙ ap (λ x. open_at_row t k x) left ∙ open_value t k c p own above left))

module _ (s : Printing) where
  -- texts of row k and of later rows, and the number of rows, are not asked
  open_known : (m n : ℕ) (xs ys : List Text) (c : ℕ) → open_at_row (table_known s m xs) s.rows c ≡ open_at_row (table_known s n ys) s.rows c
  unfolding open_at_row table_known text_known
  open_known m n xs ys c =
      elim (cases_Bool (nat_lt (owner s.table.config.spans s.rows c).row s.rows && ((owner s.table.config.spans s.rows c).col == c))) [
        | inl e ↦
            let p : Position = owner s.table.config.spans s.rows c in
            let parts = and_parts (nat_lt p.row s.rows) (p.col == c) e in
            let above : p.row < s.rows = ltb-true p.row s.rows parts.0 in
            let other : (p.row == s.rows) ≡ false = grind (arith, nat_tests, above) in
            rw (e, other) refl
        | inr e ↦ rw e refl
      ]

  -- so the printer is in the state of each table that it may become
  pub slots_known : Stands s → (m : ℕ) (cells : List Text) → s.slots ≡ open_before (table_known s m cells) s.rows
  unfolding open_before table_known
  slots_known h m cells = h.slots ∙ map_range-same (open_at_row (table_known s s.rows []) s.rows) (open_at_row (table_known s m cells) s.rows) 0 s.table.columns (λ c a b. open_known s.rows m [] cells c)

  kept_at : (cells : List Text) (is_last : Bool) (c : ℕ) → c < s.table.columns
      → open_at_row (table_known s (s.rows + 1) cells) (s.rows + 1) c ≡ open_at_row (table_known (after_row s cells is_last) (s.rows + 1) []) (s.rows + 1) c
  unfolding after_row table_known
  kept_at cells is_last c inside =
      let k : ℕ = s.rows + 1 in
      let t : Table = table_known s k cells in
      let u : Table = table_known (after_row s cells is_last) k [] in
      let p : Position = owner s.table.config.spans k c in
      elim (cases_Bool (nat_lt p.row k && (p.col == c))) [
        | inl e ↦
            let parts = and_parts (nat_lt p.row k) (p.col == c) e in
            let above : p.row < k = ltb-true p.row k parts.0 in
            let left : p.col ≡ c = eqb-true p.col c parts.1 in
            open_value t k c p refl above left
            ∙ ap (λ text. Some (record { begun = p.row; text = text; drawn = drawn_before s.table.config s.table.height k p })) (sym (text_kept t k c p refl inside above left))
            ∙ sym (open_value u k c p refl above left)
        | inr e ↦
            open_none t k c (λ above left. grind (arith, nat_tests, above, left, e))
            ∙ sym (open_none u k c (λ above left. grind (arith, nat_tests, above, left, e)))
      ]

  lines_kept : Stands s → s.lines + length (marks_of_row s.table.config s.table.height s.rows) ≡ length (marks_above s.table.config s.table.height (s.rows + 1))
  unfolding marks_above
  lines_kept h = rw add-one (ap (λ n. n + length (marks_of_row s.table.config s.table.height s.rows)) h.lines ∙ sym (length-append (marks_above s.table.config s.table.height s.rows) (marks_of_row s.table.config s.table.height s.rows)))

  -- and it stays so
  pub Stands-after : (cells : List Text) (is_last : Bool) → Stands s → Stands (after_row s cells is_last)
  unfolding after_row open_before table_known
  Stands-after cells is_last h = record {
    slots = map_range-same (open_at_row (table_known s (s.rows + 1) cells) (s.rows + 1)) (open_at_row (table_known (after_row s cells is_last) (s.rows + 1) []) (s.rows + 1)) 0 s.table.columns (λ c a b. kept_at cells is_last c (omega (arith, b)));
    lines = lines_kept h;
  }

-- ---- what a call of a printer finds, and what it leaves

-- a cell that has begun or that was there
one-begun-of : (t : Table) (k x : ℕ) (text : Text) (cell : Option Placed) (Q : ℕ → Placed → Type 0) → (is_at (owner t.config.spans k x) k x ≡ true → Q x (new_cell t (at k x) text)) → IfSome cell (Q x) → (c : Placed) → begin_cell t k text x cell ≡ Some c → Q x c
unfolding begin_cell
one-begun-of t k x text cell Q new old c e =
    elim (cases_Bool (is_at (owner t.config.spans k x) k x)) [
      | inl own ↦ subst (Q x) (one_cell (new_cell t (at k x) text) c (rw own at e)) (new own)
      | inr other ↦ subst (λ (o : Option Placed). IfSome o (Q x)) (rw other at e) old
    ]
  where
    one_cell : (a b : Placed) → Some a ≡ Some b → a ≡ b
    one_cell a b e = cc

-- as many lines of a rectangle at most are drawn as of the body
drawn-lines : (config : Config) (height : ℕ → ℕ) (k : ℕ) (p : Position) → drawn_before config height k p ≤ length (marks_above config height k)
unfolding drawn_before
drawn-lines config height k p =
    let test : Mark → Bool = stands_within p.row (p.row + rect_rows config.spans p) in
    let e = length-filter test (marks_above config height k) in
    let l = count_by-le-length test (marks_above config height k) in
    omega (arith, e, l)

pub length-separator : (config : Config) (k : ℕ) → length (only_if (has_horizontal config k (k + 1)) (sep k)) ≡ separator_height config k
unfolding separator_height
length-separator config k = by_case (has_horizontal config k (k + 1))
  where
    by_case : (b : Bool) → length (only_if b (sep k)) ≡ (if b then 1 else 0)
    by_case true = refl
    by_case false = refl

module _ (s : Printing) (w : ℕ) (height : Option ℕ) (cells : List (Option Placed)) (slots : s.slots ≡ slots_of cells) (sound : IsSound s s.table w height cells) where
  abbrev t : Table
  t = s.table

  abbrev k : ℕ
  k = s.rows

  pub stands : Stands s
  stands = record { slots = slots ∙ sound.slots; lines = sound.lines }

  pub apart : Apart s.table.config.spans
  apart = apart_from s.table.config.spans s.table.columns sound.fits.spans

  pub owners : HasOwners s.table.config.spans
  owners = owners_of s.table.config.spans apart

  -- ---- the open cells

  pub slots-are : (m : ℕ) (texts : List Text) → slots_of cells ≡ open_before (table_known s m texts) k
  slots-are m texts = sym slots ∙ slots_known s stands m texts

  pub owner-above : (x : ℕ) → x < s.table.columns → IsOwnerAbove s.table.config.spans k x (get_or cells x None)
  unfolding table_known
  owner-above x h = owner-open (table_known s 0 []) k cells (slots-are 0 []) x h

  pub inside-now : AllOpen (λ x cell. x + rect_columns s.table.config.spans (at cell.begun x) ≤ s.table.columns) cells
  inside-now = inside-columns s.table.config.spans k s.table.columns cells apart sound.fits.spans sound.whole (λ x c h here. (owner-above x h).some c here)

  drawn-at_most : (x : ℕ) (c : Placed) → x < s.table.columns → get_or cells x None ≡ Some c → c.drawn ≤ s.lines
  unfolding table_known
  drawn-at_most x c h here =
      let e = (open-at (table_known s 0 []) k cells (slots-are 0 []) x c h here).drawn in
      let l = drawn-lines s.table.config s.table.height k (at c.begun x) in
      let lines = sound.lines in
      omega (arith, e, l, lines)

  pub room-above : (d : ℕ) → s.lines + d < 2 ^ 64 → AllOpen (λ x cell. cell.drawn + d < 2 ^ 64) cells
  room-above d few = all-open (λ x cell. cell.drawn + d < 2 ^ 64) cells (λ x c h here. let l = drawn-at_most x c (omega (arith, h, sound.whole)) here in omega (arith, l, few))

  -- the rectangle of an owner in row k has the row's lines
  tall-owner : (x : ℕ) (c : Placed) → owner s.table.config.spans k x ≡ at c.begun x → 0 < s.table.height k → 0 < height_of_rect s.table.config s.table.height (at c.begun x)
  tall-owner x c own some =
      let p : Position = at c.begun x in
      let n = owners.near k x in
      let row = ap (λ (q : Position). q.row) own in
      let rows = ap (λ q. rect_rows s.table.config.spans q) own in
      let least = drawn-le s.table.config s.table.height (k + 1) p (omega (arith, n.above, row, rows)) in
      elim (cases_Bool (c.begun == k)) [
        | inl e ↦ let f = drawn-first s.table.config s.table.height k p (eqb-true c.begun k e) (omega (arith, n.above, n.below, row, rows)) in omega (arith, least, f, some)
        | inr e ↦
            let below = n.below in
            let f = drawn-more s.table.config s.table.height k p (grind (arith, nat_tests, e, below, row)) (omega (arith, n.above, row, rows)) in
            omega (arith, least, f, some)
      ]

  pub tall-above : 0 < separator_height s.table.config k → AllOpen (IsTall t) cells
  tall-above some =
      all-open (IsTall t) cells (λ x c h here.
      let inside : x < s.table.columns = omega (arith, h, sound.whole) in
      let own = (owner-above x inside).some c here in
      let above = (owner-above x inside).above c here in
      let n = owners.near k x in
      let row = ap (λ (q : Position). q.row) own in
      let rows = ap (λ q. rect_rows s.table.config.spans q) own in
      let least = drawn-le s.table.config s.table.height (k + 1) (at c.begun x) (omega (arith, n.above, row, rows)) in
      let f = drawn-more s.table.config s.table.height k (at c.begun x) above (omega (arith, n.above, row, rows)) in
      omega (arith, least, f, some))

  pub drawn-above : 0 < separator_height s.table.config k → AreDrawn t cells
  drawn-above some = record { opened = record { columns = sound.whole; inside = inside-now; placed = sound.placed }; tall = tall-above some }

  -- when the separator is drawn
  abbrev pub cells_above : List (Option Placed)
  cells_above = map (draw_cell (separator_height s.table.config k)) cells

  pub owner-begins : (x : ℕ) → x < s.table.columns → IsOwnerAbove s.table.config.spans k x (get_or cells_above x None)
  owner-begins x h = subst (IsOwnerAbove s.table.config.spans k x) (sym (drawn-at (separator_height s.table.config k) cells x)) (owner-drawn s.table.config.spans k x (separator_height s.table.config k) (get_or cells x None) (owner-above x h))

  pub whole-above : s.table.columns ≡ length cells_above
  whole-above = sound.whole ∙ sym (length-map cells (draw_cell (separator_height s.table.config k)))

  -- ---- row k of these texts

  module _ (texts : List Text) where
    abbrev pub cells_now : List (Option Placed)
    cells_now = cells_begun t k texts cells_above

    now-is : (x : ℕ) → get_or (partly (λ x. begin_cell t k (slice_index_or texts x []) x) 0 s.table.columns cells_above) x None ≡ get_or cells_now x None
    now-is x = ap (λ l. get_or l x None) (partly-all (λ x. begin_cell t k (slice_index_or texts x []) x) 0 s.table.columns cells_above (omega (arith, whole-above)) ∙ begun-is t k texts cells_above)

    owner-now : (x : ℕ) → x < s.table.columns → IsOwner s.table.config.spans k x (get_or cells_now x None)
    owner-now x h = subst (IsOwner s.table.config.spans k x) (now-is x) (owner-begun t owners k s.table.columns texts cells_above whole-above owner-begins s.table.columns x h h)

    owner-draw : (i x : ℕ) → (cell : Option Placed) → IsOwner s.table.config.spans k x cell → IsOwner s.table.config.spans k x (draw_cell i cell)
    owner-draw i x None h = h
    owner-draw i x (Some cell) h = record {
      none = λ e. absurd (no_cell e);
      some = λ c e. h.some cell refl ∙ ap (λ (c : Placed). at c.begun x) (one_cell c e);
    }
      where
        no_cell : Some (record cell { drawn = cell.drawn + i }) ≡ None → ⊥
        no_cell e = cc

        one_cell : (c : Placed) → Some (record cell { drawn = cell.drawn + i }) ≡ Some c → record cell { drawn = cell.drawn + i } ≡ c
        one_cell c e = cc

    pub owner-drawn-now : (i x : ℕ) → x < s.table.columns → IsOwner s.table.config.spans k x (get_or (map (draw_cell i) cells_now) x None)
    owner-drawn-now i x h = subst (IsOwner s.table.config.spans k x) (sym (drawn-at i cells_now x)) (owner-draw i x (get_or cells_now x None) (owner-now x h))

    pub whole-now : s.table.columns ≡ length cells_now
    whole-now =
        whole-above ∙ sym (partly-length (λ x. begin_cell t k (slice_index_or texts x []) x) 0 s.table.columns cells_above)
        ∙ ap length (partly-all (λ x. begin_cell t k (slice_index_or texts x []) x) 0 s.table.columns cells_above (omega (arith, whole-above)) ∙ begun-is t k texts cells_above)

    pub tall-now : 0 < s.table.height k → AllOpen (IsTall t) cells_now
    tall-now some = all-open (IsTall t) cells_now (λ x c h here. tall-owner x c ((owner-now x (omega (arith, h, whole-now))).some c here) some)

    pub begun-now : AllOpen (λ x cell. cell.begun ≤ k) (map (draw_cell (s.table.height k)) cells_now)
    begun-now =
        all-open (λ x cell. cell.begun ≤ k) (map (draw_cell (s.table.height k)) cells_now) (λ x c h here.
        let inside : x < s.table.columns = omega (arith, h, whole-now, length-map cells_now (draw_cell (s.table.height k))) in
        let row = ap (λ (p : Position). p.row) ((owner-drawn-now (s.table.height k) x inside).some c here) in
        let n = owners.near k x in
        omega (arith, row, n.below))

    -- what holds of each cell that begins, and of each that is open, whatever is drawn of it
    all-now : (P Q : ℕ → Placed → Type 0) → ((x : ℕ) (c : Placed) → P x c → Q x (record c { drawn = c.drawn + separator_height s.table.config k })) → AllOpen P cells
        → ((x : ℕ) → x < s.table.columns → is_at (owner s.table.config.spans k x) k x ≡ true → Q x (new_cell t (at k x) (slice_index_or texts x []))) → AllOpen Q cells_now
    all-now P Q drawn old new =
        all-open Q cells_now (λ x c h here.
        let inside : x < s.table.columns = omega (arith, h, whole-now) in
        let e : get_or cells_now x None ≡ begin_cell t k (slice_index_or texts x []) x (get_or cells_above x None) =
        sym (now-is x) ∙ partly-below (λ x. begin_cell t k (slice_index_or texts x []) x) 0 s.table.columns cells_above x None inside (omega (arith, inside, whole-above)) ∙ ap (λ n. begin_cell t k (slice_index_or texts n []) n (get_or cells_above x None)) (zero-add x) in
        one-begun-of t k x (slice_index_or texts x []) (get_or cells_above x None) Q (λ own. new x inside own) (drawn-all P Q (separator_height s.table.config k) cells drawn old x) c (sym e ∙ here))

    pub placed-now : HaveRoom t k texts → AllOpen (IsPlaced t) cells_now
    placed-now rooms =
        all-now (IsPlaced t) (IsPlaced t) (λ x c h. record { width = h.width; place = h.place; room = h.room }) sound.placed
        (λ x h own. placed-new t (at k x) (slice_index_or texts x []) (rooms x h own).room)

    pub drawn-now : HaveRoom t k texts → 0 < s.table.height k → AreDrawn t cells_now
    drawn-now rooms some = record {
      opened = record {
        columns = whole-now;
        inside = inside-columns s.table.config.spans k s.table.columns cells_now apart sound.fits.spans whole-now (λ x c h here. (owner-now x h).some c here);
        placed = placed-now rooms;
      };
      tall = tall-now some;
    }

    pub room-now : s.lines + (separator_height s.table.config k + s.table.height k) < 2 ^ 64 → AllOpen (λ x cell. cell.drawn + s.table.height k < 2 ^ 64) cells_now
    room-now few =
        all-now (λ x cell. cell.drawn + (separator_height s.table.config k + s.table.height k) < 2 ^ 64) (λ x cell. cell.drawn + s.table.height k < 2 ^ 64) (λ x c h. omega (arith, h)) (room-above (separator_height s.table.config k + s.table.height k) few)
        (λ x h own. omega (arith, few))
