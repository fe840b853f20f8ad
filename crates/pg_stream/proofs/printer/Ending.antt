-- A printer before its first row and after its last one.
use Rattle.std.proofs.Common.{◌≡◌, ℕ, zero, suc, ◌-◌, ◌^◌, ◌<◌, ◌≤◌, true, false, List, [], ◌∷◌, length, replicate, slice_index_or, Option, Some, None, IfSome, option_map, refl, sym, ap, ◌∙◌, arith, ◌+◌, Bool, not, ◌&&◌, ◌==◌, nat_lt, ◌++◌, flat_map, get_or, length-append, ap₂, append-nil, zero-add, subst, ◌⊎◌, inl, inr}
use Rattle.std.proofs.lemmas.Bool.{false≢true, cases_Bool, ltb-true}
use Rattle.std.proofs.lemmas.List.{length-replicate}
use Rattle.pg_layout.specs.declared.position.Position.{Position}
use Rattle.pg_layout.specs.Colors.{Color}
use Rattle.pg_config.specs.Config.{Config, has_horizontal, has_equal_row_lines}
use Rattle.pg_picture.specs.Fits.{body_height, totals_fit, spans_fit}
use Rattle.pg_picture.specs.Marks.{marks_above, Mark, sep, only_if, body}
use Rattle.pg_picture.specs.Sizes.{if_fits, sized}
use Rattle.pg_picture.specs.Table.{Table, full_width, total_width, table_body, margin_lines, margin_line, mark_text, is_inside, is_covered, crossing, crossing_at, column_items, separator_part, separator_items}
use Rattle.pg_picture.proofs.FittingTables.{totals_facts}
use Rattle.pg_picture.proofs.MarksOfRectangles.{length-table_body}
use Rattle.pg_picture.proofs.Ranges.{if_fits-below, range-more}
use Rattle.pg_stream.specs.Conditions.{PrinterFits}
use Rattle.pg_stream.specs.Open.{open_at_row, open_before}
use Rattle.pg_stream.specs.Placed.{Placed, slots_of, AllOpen, IsPlaced}
use Rattle.pg_stream.specs.Printers.{IsSound}
use Rattle.pg_stream.specs.Printing.{Printing, table_known, printer, hint_of, text_known, lines_below, lines_printed, finish_lines, finish_text}
use Rattle.pg_stream.proofs.draw.Steps.{open_none}
use Rattle.pg_stream.proofs.printer.WholePictures.{map_range-same, no_slots}
use Rattle.std.specs.List.{range_with_len}
use Rattle.std.proofs.lemmas.Bool.Decides.{nat_tests}
use Rattle.pg_layout.specs.Position.{at}
use Rattle.pg_layout.specs.Text.{Text}
use Rattle.pg_config.specs.Spans.{Span, rect_rows, owner}
use Rattle.pg_picture.specs.Pieces.{continued, written, separator_text, Item}
use Rattle.pg_picture.specs.Inside.{lines_before}
use Rattle.pg_picture.specs.Picture.{bottom_lines, body_lines}
use Rattle.pg_picture.proofs.Pictures.{length-body_lines, continued-nil, continued-append, continued-any, none-of-two, flat_map-same}
use Rattle.pg_picture.proofs.Owners.{owner-own, owner-ends}
use Rattle.pg_stream.specs.Inside.{reach, open_separator_part, open_separator, below_text, IsSeparator}
use Rattle.pg_stream.proofs.draw.OpenLists.{all-open}
use Rattle.pg_stream.proofs.draw.OwnersOfCells.{columns-same, reaching}
use Rattle.pg_stream.proofs.printer.RowsOfTables.{KnowsHeight, below-mark, other}
use Rattle.pg_stream.proofs.printer.RowsPrinted.{apart, owners, owner-above}
use Rattle.std.specs.Prelude.{String, Result, Ok, Err}
use Rattle.pg_picture.specs.Appending.{Appends}
use Rattle.pg_picture.proofs.Appending.{Appends-text, Gained-none, Gained-all}
use Rattle.pg_stream.specs.LiveStreams.{MayEnd, AppendsEnd}
use Rattle.pg_stream.specs.Streams.{OnlyMemory}
use Rattle.pg_stream.specs.declared.fault.StreamFault.{StreamFault}
use Rattle.pg_stream.specs.declared.fault.StreamFault.TheVariants.{Misfit, Row, Open, Memory}
use Rattle.pg_config.proofs.EqualLines.{SameLines, inner_lines}
use Rattle.pg_picture.proofs.Separators.{crossing_at-same, horizontal-same, equal_when}

-- ---- a printer before its first row

-- no cell is open above row 0
none-open : (t : Table) → open_before t 0 ≡ replicate t.columns None
unfolding open_before
none-open t = map_range-same (open_at_row t 0) (λ c. None) 0 t.columns (λ c a b. open_none t 0 c (λ h l. omega (arith, h))) ∙ no_slots 0 t.columns

pub slots-none : (n : ℕ) → slots_of (replicate n None) ≡ replicate n None
slots-none zero = refl
slots-none (suc n) = ap (λ l. None ∷ l) (slots-none n)

pub none-at : (n x : ℕ) → slice_index_or (replicate {A = Option Placed} n None) x None ≡ None
none-at zero x = refl
none-at (suc n) zero = refl
none-at (suc n) (suc x) = none-at n x

all-none : (P : ℕ → Placed → Type 0) (n : ℕ) → AllOpen P (replicate n None)
all-none P n x = rw (none-at n x) tt

-- the numbers that are asked fit
pub width-some : (s : Printing) (o : Option ℕ) → full_width s.table < 2 ^ 64 → o ≡ if_fits (full_width (sized s.table.config s.table.width s.table.height 0 s.table.columns)) → o ≡ Some (full_width s.table)
unfolding full_width total_width
width-some s o few is = is ∙ if_fits-below (full_width s.table) few

heights : (s : Printing) (o : Option ℕ) (Q : ℕ → Type 0) → IfSome o (λ rows. Q rows × (totals_fit (record s.table { rows = rows }) ≡ true)) → IfSome o (λ m. (m < 2 ^ 64 - 1) × (body_height (sized s.table.config s.table.width s.table.height m 0) < 2 ^ 64))
unfolding body_height
heights s None Q h = tt
heights s (Some m) Q h = let f = totals_facts (record s.table { rows = m }) h.1 in (f.rows, f.height)

pub heights-fit : (s : Printing) → PrinterFits s → IfSome s.hint (λ m. (m < 2 ^ 64 - 1) × (body_height (sized s.table.config s.table.width s.table.height m 0) < 2 ^ 64))
heights-fit s fits = heights s s.hint (λ rows. _) fits.hint

high-is : (s : Printing) (o : Option ℕ) → option_map (λ m. body_height (sized s.table.config s.table.width s.table.height m 0)) o ≡ option_map (λ rows. length (table_body (record s.table { rows = rows }))) o
unfolding body_height table_body
high-is s None = refl
high-is s (Some m) = ap (λ n. Some n) (sym (length-table_body (record s.table { rows = m })))

-- what is true of the printer
module _ (config : Config) (columns : ℕ) (width height : ℕ → ℕ) (color : Position → Option Color) (hint : Option ℕ) (cells : List (Option Placed)) (fits : PrinterFits (printer config columns width height color hint)) (empty : cells ≡ replicate columns None) where
  abbrev pub first : Printing
  first = record {
    table = record { config = config; rows = 0; columns = columns; width = width; height = height; text = λ p. []; color = color };
    hint = hint;
    rows = 0;
    lines = 0;
    is_ended = false;
    slots = slots_of cells;
  }

  pub first-is : first ≡ printer config columns width height color hint
  unfolding printer
  first-is = let e : slots_of cells ≡ replicate columns None = ap (λ l. slots_of l) empty ∙ slots-none columns in rw e refl

  pub first-fits : PrinterFits first
  unfolding printer
  first-fits = record { some = fits.some; few = fits.few; spans = fits.spans; width = fits.width; hint = fits.hint }

  open-first : slots_of cells ≡ open_before (table_known first 0 []) 0
  unfolding table_known
  open-first = ap (λ l. slots_of l) empty ∙ slots-none columns ∙ sym (none-open (table_known first 0 []))

  lines-first : 0 ≡ length (marks_above config height 0)
  unfolding marks_above
  lines-first = refl

  hinted-first : (o : Option ℕ) → IfSome o (λ rows. (0 ≤ rows) × (false ≡ true → 0 ≡ rows))
  hinted-first None = tt
  hinted-first (Some m) = (omega arith, λ e. absurd (false≢true e))

  pub sound-first : (w : ℕ) (h : Option ℕ) → w ≡ full_width first.table → h ≡ option_map (λ m. body_height (sized config width height m 0)) hint → IsSound first first.table w h cells
  sound-first w h wide high = record {
    fits = first-fits;
    full = wide;
    high = high ∙ high-is first hint;
    whole = sym (ap length empty ∙ length-replicate columns None);
    slots = open-first;
    lines = lines-first;
    placed = rw empty (all-none (IsPlaced first.table) columns);
    few = omega arith;
    hinted = hinted-first hint;
    ended = λ e. absurd (false≢true e);
  }

-- ---- a printer after its last row: no cell is open, and the last separator and the bottom margin are left

-- nothing was printed where no row was
pub finish-none : (s : Printing) → s.rows ≡ 0 → [] ≡ finish_text s
unfolding finish_text finish_lines
finish-none s none = let e : (s.rows == 0) ≡ true = grind (arith, nat_tests, none) in rw e (sym (continued-nil (lines_printed s)))

-- a printer that has printed a row and may be ended has printed the last one
pub ended_of : (rows : ℕ) (is_ended : Bool) → (rows ≡ 0) ⊎ (is_ended ≡ true) → 0 < rows → is_ended ≡ true
ended_of rows is_ended (inl none) some = absurd (omega (arith, none, some))
ended_of rows is_ended (inr e) some = e

and_none : (b c : Bool) → c ≡ false → (b && c) ≡ false
and_none true c e = e
and_none false c e = refl

-- ---- a separator without open cells

pub reach-empty : (spans : List Span) (cells : List (Option Placed)) → ((x : ℕ) → get_or cells x None ≡ None) → (x : ℕ) → nat_lt x (reach spans cells x) ≡ false
reach-empty spans cells empty x =
    elim (cases_Bool (nat_lt x (reach spans cells x))) [
      | inr e ↦ e
      | inl e ↦ let r = reaching spans cells x (ltb-true x (reach spans cells x) e) in absurd (some_none (sym r.here ∙ empty r.column))
    ]
  where
    some_none : {c : Placed} → Some c ≡ None → ⊥
    some_none e = cc

module _ (t : Table) (m : ℕ) (f : Position → Text) (cells : List (Option Placed)) (empty : (x : ℕ) → get_or cells x None ≡ None) where
  covered-none : (x : ℕ) → is_covered (other t m f) m x ≡ false
  unfolding is_covered
  covered-none x = let e : nat_lt m m ≡ false = grind (arith, nat_tests) in rw e refl

  crossing-bare : (x : ℕ) → crossing (other t m f) m x ≡ crossing_at t.config m t.columns (at m x)
  unfolding crossing
  crossing-bare x = let e = and_none (is_inside (other t m f) m x) (is_covered (other t m f) m x) (covered-none x) in rw e refl

  part-bare : (x : ℕ) → x < t.columns → open_separator_part t m cells m x ≡ separator_part (other t m f) m x
  unfolding open_separator_part separator_part column_items
  part-bare x h =
      let here : nat_lt x t.columns ≡ true = grind (arith, nat_tests, h) in
      rw (reach-empty t.config.spans cells empty x, empty x, crossing-bare x, covered-none x, here) refl

  last-bare : crossing_at t.config m t.columns (at m t.columns) ≡ separator_part (other t m f) m t.columns
  unfolding separator_part column_items
  last-bare =
      let end : nat_lt t.columns t.columns ≡ false = grind (arith, nat_tests) in
      rw (crossing-bare t.columns, covered-none t.columns, end) (sym (append-nil (crossing_at t.config m t.columns (at m t.columns))))

  pub separator-bare : open_separator t m cells m ≡ separator_items (other t m f) m
  unfolding open_separator separator_items
  separator-bare =
      ap₂ (λ xs ys. xs ++ ys) (columns-same (open_separator_part t m cells m) (separator_part (other t m f) m) 0 t.columns (λ x l h. part-bare x (omega (arith, h)))) last-bare
      ∙ sym (range-more (separator_part (other t m f) m) 0 t.columns ∙ ap (λ n. flat_map (separator_part (other t m f) m) (range_with_len 0 t.columns) ++ separator_part (other t m f) m n) (zero-add t.columns))

-- ---- after the last row

module _ (s : Printing) (w : ℕ) (height : Option ℕ) (cells : List (Option Placed)) (slots : s.slots ≡ slots_of cells) (sound : IsSound s s.table w height cells) (ended : s.is_ended ≡ true) where
  abbrev t : Table
  t = s.table

  abbrev m : ℕ
  m = s.rows

  abbrev f : Position → Text
  f = text_known s.rows s.slots []

  closed : (x : ℕ) (c : Placed) → x < s.table.columns → get_or cells x None ≡ Some c → ⊥
  closed x c h here =
      let a = owner-above s w height cells slots sound x h in
      let own = a.some c here in
      let above = a.above c here in
      let all = owners s w height cells slots sound in
      let n = all.near m x in
      let row = ap (λ (p : Position). p.row) own in
      let mine = owner-own s.table.config.spans all m x in
      let end = owner-ends s.table.config.spans m s.table.columns (apart s w height cells slots sound) (sound.ended ended) (owner s.table.config.spans m x).row (owner s.table.config.spans m x).col (omega (arith, row, above)) in
      let mine_row = ap (λ (p : Position). p.row) mine in
      let mine_rows = ap (λ p. rect_rows s.table.config.spans p) mine in
      omega (arith, end, mine_row, mine_rows, n.above)

  pub no_cells : (P : ℕ → Placed → Type 0) → AllOpen P cells
  no_cells P = all-open P cells (λ x c h here. absurd (closed x c (omega (arith, h, sound.whole)) here))

  no_cell : (x : ℕ) → get_or cells x None ≡ None
  no_cell x = by_cell (get_or cells x None) refl
    where
      none_some : {c : Placed} → IfSome (get_or cells x None) (λ c. ⊥) → get_or cells x None ≡ Some c → ⊥
      none_some {c} h e = subst (λ (o : Option Placed). IfSome o (λ c. ⊥)) e h

      by_cell : (o : Option Placed) → get_or cells x None ≡ o → get_or cells x None ≡ None
      by_cell None e = e
      by_cell (Some c) e = absurd (none_some (no_cells (λ x c. ⊥) x) e)

  -- ---- what `finish` appends

  knows_by : (o : Option ℕ) → height ≡ option_map (λ rows. length (table_body (record t { rows = rows }))) o → IfSome o (λ rows. (m ≤ rows) × (s.is_ended ≡ true → m ≡ rows)) → KnowsHeight (hint_of o) (length (table_body (other t m f))) height
  unfolding KnowsHeight table_body
  knows_by (Some n) e h = e ∙ ap (λ k. Some (length (body t.config t.height k))) (sym (h.1 ended))
  knows_by None e h = e

  separator-is : mark_text (other t m f) (sep m) ≡ separator_text (open_separator t m cells m)
  unfolding mark_text
  separator-is = ap separator_text (sym (separator-bare t m f cells no_cell))

  body-is : length (table_body (other t m f)) ≡ s.lines + length (only_if (has_horizontal s.table.config m m) (sep m))
  unfolding table_body body
  body-is = let e = length-append (marks_above s.table.config s.table.height m) (only_if (has_horizontal s.table.config m m) (sep m)) in omega (arith, e, sound.lines)

  printed-is : 0 < m → lines_printed s ≡ s.table.config.margin.top.size + s.lines
  unfolding lines_printed
  printed-is some = let e : (m == 0) ≡ false = grind (arith, nat_tests, some) in rw e refl

  bottom-is : bottom_lines (other t m f) ≡ replicate s.table.config.margin.bottom.size (written (margin_line s.table.config.margin.bottom s.table.config.margin_offset.bottom s.table.config.margin_color.bottom w))
  unfolding bottom_lines margin_lines full_width total_width
  bottom-is = rw sound.full refl

  bare-is : (is_first there : Bool) → is_first ≡ (s.table.config.margin.top.size == 0) → there ≡ has_horizontal s.table.config m m
      → ((is_first && (s.lines == 0)) && not there) ≡ (((s.table.config.margin.top.size + s.lines) + length (only_if (has_horizontal s.table.config m m) (sep m))) == 0)
  bare-is is_first there first is = ap (λ b. (is_first && (s.lines == 0)) && not b) is ∙ by_case (has_horizontal s.table.config m m)
    where
      and_true : (b : Bool) → (b && true) ≡ b
      and_true true = refl
      and_true false = refl

      by_case : (b : Bool) → ((is_first && (s.lines == 0)) && not b) ≡ (((s.table.config.margin.top.size + s.lines) + length (only_if b (sep m))) == 0)
      by_case true = and_none (is_first && (s.lines == 0)) false refl ∙ (let e : (((s.table.config.margin.top.size + s.lines) + 1) == 0) ≡ false = grind (arith, nat_tests) in sym e)
      by_case false =
          and_true (is_first && (s.lines == 0))
          ∙ ap (λ b. b && (s.lines == 0)) first ∙ none-of-two s.table.config.margin.top.size s.lines
          ∙ ap (λ n. n == 0) (let e : s.table.config.margin.top.size + s.lines ≡ (s.table.config.margin.top.size + s.lines) + 0 = omega arith in e)

  pub finish_text-is : (is_first there : Bool) → 0 < m → is_first ≡ (s.table.config.margin.top.size == 0) → there ≡ has_horizontal s.table.config m m
      → below_text t height cells m s.lines
      ++ continued (lines_before ((is_first && (s.lines == 0)) && not there)) (replicate s.table.config.margin.bottom.size (written (margin_line s.table.config.margin.bottom s.table.config.margin_offset.bottom s.table.config.margin_color.bottom w)))
      ≡ finish_text s
  unfolding finish_text finish_lines table_known lines_below
  finish_text-is is_first there some first is =
      let T : Table = other t m f in
      let top : ℕ = s.table.config.margin.top.size in
      let xs : List Mark = only_if (has_horizontal s.table.config m m) (sep m) in
      let X : List Text = body_lines (hint_of s.hint) T s.lines xs in
      let no_rows : (m == 0) ≡ false = grind (arith, nat_tests, some) in
      let whole = body-is in
      let count = length-body_lines (hint_of s.hint) T s.lines xs in
      let below = below-mark (hint_of s.hint) t m f m s.lines height (length (table_body T)) (knows_by s.hint sound.high sound.hinted) cells (has_horizontal s.table.config m m) refl (omega (arith, whole)) refl separator-is in
      sym ((rw no_rows refl)
      ∙ ap (λ n. continued n (X ++ bottom_lines T)) (printed-is some)
      ∙ continued-append (top + s.lines) X (bottom_lines T)
      ∙ ap₂ (λ (a b : Text). a ++ b) below
      (ap (λ n. continued ((top + s.lines) + n) (bottom_lines T)) count
      ∙ continued-any ((top + s.lines) + length xs) ((is_first && (s.lines == 0)) && not there) (bottom_lines T) (bare-is is_first there first is)
      ∙ ap (λ l. continued (lines_before ((is_first && (s.lines == 0)) && not there)) l) bottom-is))

-- ---- a printer that is ended behind rows of which none was told to be the last

-- the end below the rows doesn't ask whether the last of them was told to be that
pub finish-any : (s : Printing) (b : Bool) → finish_text (record s { is_ended = b }) ≡ finish_text s
unfolding finish_text finish_lines lines_printed table_known
finish-any s b = refl

hinted : (o : Option ℕ) (k : ℕ) (b : Bool) → IfSome o (λ rows. (k ≤ rows) × (b ≡ true → k ≡ rows)) → IfSome o (λ rows. k ≡ rows) → IfSome o (λ rows. (k ≤ rows) × (true ≡ true → k ≡ rows))
hinted None k b h all = tt
hinted (Some n) k b h all = (h.0, λ _. all)

-- a printer stays sound, where its last row may be the table's
pub sound-ended : (s : Printing) (t : Table) (w : ℕ) (height : Option ℕ) (cells : List (Option Placed)) → IsSound s t w height cells
    → IfSome s.hint (λ rows. s.rows ≡ rows) × (spans_fit s.table.config.spans s.rows s.table.columns ≡ true) → IsSound (record s { is_ended = true }) t w height cells
unfolding table_known
sound-ended s t w height cells sound may = record {
  fits = record { some = sound.fits.some; few = sound.fits.few; spans = sound.fits.spans; width = sound.fits.width; hint = sound.fits.hint };
  full = sound.full;
  high = sound.high;
  whole = sound.whole;
  slots = sound.slots;
  lines = sound.lines;
  placed = sound.placed;
  few = sound.few;
  hinted = hinted s.hint s.rows s.is_ended sound.hinted may.0;
  ended = λ _. may.1;
}

module _ {Z U : Type 0} {s : Printing} {old : String Z} where
  -- where no row was printed, nothing is appended
  pub none-ends : (value : U) → s.rows ≡ 0 → AppendsEnd s old old (Ok value)
  none-ends value none = record { whole = λ _. (Appends-text (finish-none s none) (Gained-all (Gained-none old)), tt); misfit = λ no. absurd (no (inl none)); tells = inl none }

  pub stays-open : ¬ (MayEnd s) → AppendsEnd {U = U} s old old (Err Open)
  stays-open open_still = record { whole = λ may. absurd (open_still may); misfit = λ _. (refl, refl); tells = open_still }

  pub ends : {new : String Z} (r : Result U StreamFault) → MayEnd s → Appends old new r (finish_text s) → OnlyMemory r → AppendsEnd s old new r
  ends (Ok value) may a memory = record { whole = λ _. (a, tt); misfit = λ no. absurd (no may); tells = may }
  ends (Err (Misfit m)) may a memory = absurd memory
  ends (Err (Row n)) may a memory = absurd memory
  ends (Err Open) may a memory = absurd memory
  ends (Err Memory) may a memory = record { whole = λ _. (a, tt); misfit = λ no. absurd (no may); tells = may }

-- ---- where nothing was set by its place for row lines, and no cell is open, the separators above all rows but the first are equal

module _ (t : Table) (equal : has_equal_row_lines t.config ≡ true) (r s : ℕ) (some_r : 0 < r) (some_s : 0 < s) where
  abbrev nothing : List (Option Placed)
  nothing = replicate t.columns None

  lines : (x : ℕ) → SameLines t.config (at r x) (r + 1) (at s x) (s + 1) t.columns
  lines x = inner_lines t.config equal r (r + 1) s (s + 1) (record { some = some_r; less = omega arith }) (record { some = some_s; less = omega arith }) x t.columns

  part-same : (x : ℕ) → open_separator_part t (r + 1) nothing r x ≡ open_separator_part t (s + 1) nothing s x
  unfolding open_separator_part
  part-same x =
      rw (reach-empty t.config.spans nothing (none-at t.columns) x, none-at t.columns x)
      (ap₂ (λ (a b : List Item). a ++ b) (crossing_at-same t.config r (r + 1) s (s + 1) x t.columns (lines x)) (horizontal-same t.config r (r + 1) s (s + 1) x t.columns (lines x) (t.width x)))

  pub equal_separators : open_separator t (r + 1) nothing r ≡ open_separator t (s + 1) nothing s
  unfolding open_separator
  equal_separators =
      ap₂ (λ (a b : List Item). a ++ b)
      (flat_map-same (open_separator_part t (r + 1) nothing r) (open_separator_part t (s + 1) nothing s) 0 t.columns (λ x from to. part-same x))
      (crossing_at-same t.config r (r + 1) s (s + 1) t.columns t.columns (lines t.columns))

module _ (t : Table) (cells : List (Option Placed)) (row : ℕ) (some : 0 < row) (alone : t.config.spans ≡ [] → cells ≡ replicate t.columns None) (text : Text) where
  -- what is kept is the separator above the row
  pub kept-is : IsSeparator t text → text ≡ separator_text (open_separator t (row + 1) cells row)
  kept-is kept = kept.1 row some ∙ ap (λ l. separator_text (open_separator t (row + 1) l row)) (sym (alone kept.0))

  -- and this may be kept where all of them are equal
  pub keeps : (b : Bool) → b ≡ ((length t.config.spans == 0) && has_equal_row_lines t.config) → b ≡ true → text ≡ separator_text (open_separator t (row + 1) cells row) → IsSeparator t text
  keeps b is e here =
      let equal = equal_when t.config is e in
      (equal.0, λ r more. here ∙ ap (λ l. separator_text (open_separator t (row + 1) l row)) (alone equal.0) ∙ ap separator_text (equal_separators t equal.1 row r some more))
