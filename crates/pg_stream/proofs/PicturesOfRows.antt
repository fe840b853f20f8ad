-- Rows that are printed one after another make the picture of their table.
use Rattle.std.proofs.Common.{◌≡◌, ℕ, ◌+◌, Bool, true, false, ◌==◌, List, [], ◌∷◌, ◌++◌, length, length-append, refl, sym, ap, ap₂, ◌∙◌, arith, inl, inr, eqb-true, if◌then◌else◌, zero, suc, ◌||◌, map, Option, ◌-◌, ◌^◌, ◌<◌, slice_index_or, Some, None, IfSome, subst}
use Rattle.std.proofs.lemmas.Bool.{cases_Bool, and_parts, and_from}
use Rattle.std.proofs.lemmas.Bool.Decides.{nat_tests}
use Rattle.std.proofs.lemmas.List.{length-replicate}
use Rattle.pg_layout.specs.Text.{Text}
use Rattle.pg_picture.specs.Pieces.{continued, joined, written, style_at}
use Rattle.pg_picture.specs.Marks.{marks_of_row, marks_above}
use Rattle.pg_picture.specs.Table.{Table, Hint, margin_lines, margin_line, full_width, rect_width, rect_height, total_width, table_body, Unknown}
use Rattle.pg_picture.specs.Picture.{top_lines, body_lines, picture_lines}
use Rattle.pg_picture.proofs.Pictures.{length-body_lines, continued-append, picture-some}
use Rattle.pg_stream.specs.Printing.{Printing, lines_at, lines_printed, row_lines, finish_lines, row_text, finish_text, after_row, lines_of_rows, rows_text, table_known, rows_known, hint_of, printer, rows_reached, text_known}
use Rattle.std.specs.List.{range_with_len, list_all}
use Rattle.pg_config.specs.Spans.{Span, owner, rect_rows}
use Rattle.pg_picture.specs.Fits.{span_fits_columns, span_fits, all_apart, spans_fit, spans_fit_columns, body_height, totals_fit, cell_fits, TableFits}
use Rattle.pg_picture.proofs.Owners.{apart_from, Apart, owners_of, owner-ends}
use Rattle.pg_stream.specs.Laws.{RowsMakeThePicture, texts_of, FittingTablesMayBePrinted, LiveRowsMakeThePicture}
use Rattle.pg_stream.proofs.printer.WholePictures.{cells_at, texts_from, lines_of_rows-are, state_at, at_range, after_row-is, start_is, texts_known, row_lines-are}
use Rattle.std.proofs.lemmas.List.FromFn.{length-map-range_with_len}
use Rattle.pg_layout.specs.declared.position.Position.{Position}
use Rattle.pg_layout.specs.Position.{at, is_at}
use Rattle.pg_picture.specs.Sizes.{height_of_rect}
use Rattle.pg_picture.proofs.FittingTables.{totals_facts, rect_inside, rect_width_fits, rect_height_fits, owner_fits-own}
use Rattle.pg_picture.proofs.MarksOfRectangles.{length-table_body, rect_height-of_rect}
use Rattle.pg_picture.proofs.FirstPlaces.{fits}
use Rattle.pg_stream.specs.Conditions.{HasRoom, PrinterFits, RowFits, RowsFit, AreRowsFrom}
use Rattle.pg_stream.proofs.printer.RowsOfTables.{row_inside_body, Ends, SameHeight, owner-reached, lines_at-same}
use Rattle.pg_stream.specs.LiveStreams.{live_text}
use Rattle.pg_stream.specs.Open.{open_before}
use Rattle.std.specs.Prelude.{String}
use Rattle.pg_layout.specs.Records.{AlwaysGives}
use Rattle.pg_picture.proofs.Appending.{Gained}

-- ---- rows that are printed one after another make the picture of their table

-- ---- the text that rows append, call by call, is that of their lines

length-lines_at : (hint : Hint) (t : Table) (k i : ℕ) → length (lines_at hint t k i) ≡ (if k == 0 then t.config.margin.top.size else 0) + length (marks_of_row t.config t.height k)
unfolding lines_at top_lines margin_lines
length-lines_at hint t k i =
    length-append (if k == 0 then top_lines t else []) (body_lines hint t i (marks_of_row t.config t.height k))
    ∙ ap₂ (λ (a b : ℕ). a + b) (by_case (k == 0)) (length-body_lines hint t i (marks_of_row t.config t.height k))
  where
    by_case : (b : Bool) → length (if b then top_lines t else []) ≡ (if b then t.config.margin.top.size else 0)
    by_case true = length-replicate t.config.margin.top.size (written (margin_line t.config.margin.top t.config.margin_offset.top t.config.margin_color.top (full_width t)))
    by_case false = refl

-- a printer that has printed no row has printed no line
abbrev pub IsFresh : Printing → Type 0
IsFresh s = s.rows ≡ 0 → s.lines ≡ 0

printed-after : (s : Printing) (cells : List Text) (b : Bool) → IsFresh s → lines_printed (after_row s cells b) ≡ lines_printed s + length (row_lines s cells b)
unfolding lines_printed after_row row_lines table_known
printed-after s cells b fresh =
    let row = length-lines_at (hint_of s.hint) (table_known s (rows_known s b) cells) s.rows s.lines in
    let e : ((s.rows + 1) == 0) ≡ false = grind (arith, nat_tests) in
    elim (cases_Bool (s.rows == 0)) [
      | inl z ↦ let l = fresh (eqb-true s.rows 0 z) in rw (e, row, z) (omega (arith, l))
      | inr z ↦ rw (e, row, z) (omega arith)
    ]

fresh-after : (s : Printing) (cells : List Text) (b : Bool) → IsFresh (after_row s cells b)
unfolding after_row
fresh-after s cells b h = absurd (omega (arith, h))

-- the text of rows and `finish` is that of their lines
pub rows_text-lines : (s : Printing) (rows : List (List Text)) → IsFresh s → rows_text s rows ≡ continued (lines_printed s) (lines_of_rows s rows)
unfolding rows_text lines_of_rows row_text finish_text
rows_text-lines s [] fresh = refl
rows_text-lines s (cells ∷ []) fresh =
    ap (λ n. continued (lines_printed s) (row_lines s cells true) ++ continued n (finish_lines (after_row s cells true))) (printed-after s cells true fresh)
    ∙ sym (continued-append (lines_printed s) (row_lines s cells true) (finish_lines (after_row s cells true)))
rows_text-lines s (cells ∷ next ∷ rows) fresh =
    ap (λ t. continued (lines_printed s) (row_lines s cells false) ++ t) (rows_text-lines (after_row s cells false) (next ∷ rows) (fresh-after s cells false)
    ∙ ap (λ n. continued n (lines_of_rows (after_row s cells false) (next ∷ rows))) (printed-after s cells false fresh))
    ∙ sym (continued-append (lines_printed s) (row_lines s cells false) (lines_of_rows (after_row s cells false) (next ∷ rows)))

-- ---- all rows of a table make its picture

all_columns : (rows columns : ℕ) (spans : List Span) → list_all (span_fits rows columns) spans ≡ true → list_all (span_fits_columns columns) spans ≡ true
all_columns rows columns [] h = refl
all_columns rows columns (s ∷ ss) h =
    let parts = and_parts (span_fits rows columns s) (list_all (span_fits rows columns) ss) h in
    and_from (span_fits_columns columns s) (list_all (span_fits_columns columns) ss) (and_parts (span_fits_columns columns s) _ parts.0).0 (all_columns rows columns ss parts.1)

-- spans that fit a table fit its columns
pub fit_columns : (spans : List Span) (rows columns : ℕ) → spans_fit spans rows columns ≡ true → spans_fit_columns spans columns ≡ true
unfolding spans_fit spans_fit_columns
fit_columns spans rows columns h =
    let parts = and_parts (list_all (span_fits rows columns) spans) (all_apart spans) h in
    and_from (list_all (span_fits_columns columns) spans) (all_apart spans) (all_columns rows columns spans parts.0) parts.1

-- the texts of rows, counted from a first one on
pub rows-from : (t : Table) (k j : ℕ) → map (λ r. cells_at t r) (range_with_len k j) ≡ texts_from t k j
unfolding texts_from
rows-from t k zero = refl
rows-from t k (suc j) = ap (λ l. cells_at t k ∷ l) (rows-from t (k + 1) j)

module _ (t : Table) (hint : Option ℕ) where
  abbrev start : Printing
  start = printer t.config t.columns t.width t.height t.color hint

  fresh : IsFresh start
  unfolding printer
  fresh = λ e. refl

  nothing-printed : lines_printed start ≡ 0
  unfolding lines_printed printer
  nothing-printed = refl

from-first : (lines : List Text) → continued 0 lines ≡ joined lines
unfolding continued
from-first lines = refl

pub rows-make : RowsMakeThePicture
rows-make t hint exact fit some wide =
    let s : Printing = start t hint in
    let apart = apart_from t.config.spans t.columns (fit_columns t.config.spans t.rows t.columns fit) in
    let there : ((t.rows == 0) || (t.columns == 0)) ≡ false = grind (arith, nat_tests, some, wide) in
    ap (λ l. rows_text s l) (rows-from t 0 t.rows)
    ∙ rows_text-lines s (texts_from t 0 t.rows) (fresh t hint)
    ∙ ap₂ (λ (n : ℕ) (l : List Text). continued n l) (nothing-printed t hint) (lines_of_rows-are t hint exact apart fit some)
    ∙ from-first (picture_lines (hint_of hint) t)
    ∙ sym (picture-some (hint_of hint) t there)

-- ---- a table that fits may be printed row by row

module _ (t : Table) (fit : TableFits t) where
  -- a cell that begins in row k has room
  room-at : (k c : ℕ) (text : Text) → k < t.rows → c < t.columns → is_at (owner t.config.spans k c) k c ≡ true → text ≡ t.text (at k c) → HasRoom (record t { rows = 0; text = λ p. [] }) (at k c) text
  unfolding rect_width
  room-at k c text below inside own is =
      let p : Position = at k c in
      let r = rect_inside t.config.spans t.rows t.columns p fit.spans below inside in
      let height : rect_height t p ≡ height_of_rect t.config t.height p = rect_height-of_rect t p r.some_rows r.rows_end in
      let room : cell_fits (style_at t.config p) (t.text p) (rect_width t p) (rect_height t p) ≡ true = sym (owner_fits-own t p own) ∙ fit.rooms k c below inside in
      record {
        end = omega (arith, r.rows_end, (totals_facts t fit.totals).rows);
        width = rect_width_fits t p fit.totals r;
        height = subst (λ n. n < 2 ^ 64) height (rect_height_fits t p fit.totals);
        room = ap (λ (text : Text). cell_fits (style_at t.config p) text (rect_width t p) (height_of_rect t.config t.height p)) is ∙ ap (λ n. cell_fits (style_at t.config p) (t.text p) (rect_width t p) n) (sym height) ∙ room;
      }

  -- the lines of row k and of all above it can be counted
  lines-fit : (k : ℕ) → k < t.rows → length (marks_above t.config t.height k) + length (marks_of_row t.config t.height k) < 2 ^ 64
  unfolding table_body
  lines-fit k below = omega (arith, row_inside_body t.config t.height k t.rows below, length-table_body t, (totals_facts t fit.totals).height)

  -- a number of rows that is known is that of the table
  hinted : (hint : Option ℕ) → IfSome hint (λ n. n ≡ t.rows) → (k : ℕ) → k < t.rows → IfSome hint (λ n. (k < n) × (((k + 1) == t.rows) ≡ ((k + 1) == n)))
  hinted None exact k below = tt
  hinted (Some n) exact k below = (omega (arith, exact, below), ap (λ m. (k + 1) == m) (sym exact))

  known : (hint : Option ℕ) → IfSome hint (λ n. n ≡ t.rows) → IfSome hint (λ n. (spans_fit t.config.spans n t.columns ≡ true) × (totals_fit (record t { rows = n; text = λ p. [] }) ≡ true))
  unfolding totals_fit full_width total_width body_height
  known None exact = tt
  known (Some n) exact = rw exact (fit.spans, fit.totals)

  module _ (hint : Option ℕ) (exact : IfSome hint (λ n. n ≡ t.rows)) where
    apart : Apart t.config.spans
    apart = apart_from t.config.spans t.columns (fit_columns t.config.spans t.rows t.columns fit.spans)

    row-fits-at : (k : ℕ) → k < t.rows → RowFits (state_at t hint k) (cells_at t k) ((k + 1) == t.rows)
    unfolding state_at
    row-fits-at k below = record {
      whole = length-map-range_with_len (λ c. t.text (at k c)) 0 t.columns;
      goes_on = grind (arith, nat_tests, below);
      rows = omega (arith, below, (totals_facts t fit.totals).rows);
      hint = hinted hint exact k below;
      spans = λ last. subst (λ n. spans_fit t.config.spans n t.columns ≡ true) (sym (eqb-true (k + 1) t.rows last)) fit.spans;
      rooms = λ c inside own. room-at k c (slice_index_or (cells_at t k) c []) below inside own (at_range (λ x. t.text (at k x)) t.columns c [] inside);
      lines = lines-fit k below;
    }

    rows-fit : (j k : ℕ) → k + suc j ≡ t.rows → RowsFit (state_at t hint k) (texts_from t k (suc j))
    unfolding texts_from
    rows-fit zero k e =
        let is : ((k + 1) == t.rows) ≡ true = grind (arith, nat_tests, e) in
        (rw is at (row-fits-at k (omega (arith, e))))
    rows-fit (suc j) k e =
        let below : k < t.rows = omega (arith, e) in
        let is : ((k + 1) == t.rows) ≡ false = grind (arith, nat_tests, e) in
        let next : after_row (state_at t hint k) (cells_at t k) false ≡ state_at t hint (k + 1) = (rw is at (after_row-is t hint exact apart fit.spans k below)) in
        ((rw is at (row-fits-at k below)), subst (λ (s : Printing). RowsFit s (texts_from t (k + 1) (suc j))) (sym next) (rows-fit j (k + 1) (omega (arith, e))))

    all-fit : 0 < t.rows → RowsFit (printer t.config t.columns t.width t.height t.color hint) (texts_of t)
    all-fit some =
        let j : ℕ = t.rows - 1 in
        let e : suc j ≡ t.rows = omega (arith, some) in
        let from_first = subst (λ n. RowsFit (state_at t hint 0) (texts_from t 0 n)) e (rows-fit j 0 (omega (arith, some))) in
        subst (λ (s : Printing). RowsFit s (texts_of t)) (sym (start_is t hint exact apart fit.spans)) (subst (λ (rows : List (List Text)). RowsFit (state_at t hint 0) rows) (sym (rows-from t 0 t.rows)) from_first)

    printer-fits : 0 < t.columns → PrinterFits (printer t.config t.columns t.width t.height t.color hint)
    unfolding printer full_width total_width
    printer-fits some = record {
      some = some;
      few = (totals_facts t fit.totals).columns;
      spans = fit_columns t.config.spans t.rows t.columns fit.spans;
      width = (totals_facts t fit.totals).width;
      hint = known hint exact;
    }

pub may-be-printed : FittingTablesMayBePrinted
may-be-printed t hint exact none some wide =
    let fit : TableFits t = fits t none some wide in
    (printer-fits t fit hint exact wide, all-fit t fit hint exact some)

-- ---- rows that are printed one after another, none of them as the last, make the picture of their table

-- the end below a row doesn't ask whether it was told to be the last
ended-same : (s : Printing) (cells : List Text) → finish_text (after_row s cells true) ≡ finish_text (after_row s cells false)
unfolding finish_text finish_lines lines_printed after_row table_known
ended-same s cells = refl

any_height : (h k : ℕ) → SameHeight Unknown h k
unfolding SameHeight
any_height h k = tt

module _ (t : Table) (apart : Apart t.config.spans) (fits : spans_fit t.config.spans t.rows t.columns ≡ true) where
  module _ (k : ℕ) (below : k < t.rows) where
    ends : (c : ℕ) → c < t.columns → Ends t.config t.rows (owner t.config.spans k c) × Ends t.config (rows_reached t.config.spans k) (owner t.config.spans k c)
    unfolding Ends
    ends c inside =
        let n = (owners_of t.config.spans apart).near k c in
        let a : 0 < rect_rows t.config.spans (owner t.config.spans k c) = omega (arith, n.below, n.above) in
        ((a, owner-ends t.config.spans t.rows t.columns apart fits k c below), (a, owner-reached t.config.spans apart k c))

    under : k < rows_reached t.config.spans k
    unfolding rows_reached
    under = omega arith

    -- a row that isn't told to be the last has the lines of the whole table, also where it is the last
    open_lines : row_lines (state_at t None k) (cells_at t k) false ≡ lines_at Unknown t k (length (marks_above t.config t.height k))
    unfolding row_lines rows_known table_known state_at
    open_lines = sym (lines_at-same t (rows_reached t.config.spans k) (text_known k (open_before t k) (cells_at t k)) k below under ends (texts_known t None tt apart fits k) Unknown (any_height _ _))

  last_same : (k : ℕ) → k + 1 ≡ t.rows → row_text (state_at t None k) (cells_at t k) true ≡ row_text (state_at t None k) (cells_at t k) false
  unfolding row_text
  last_same k e =
      let below : k < t.rows = omega (arith, e) in
      let is : ((k + 1) == t.rows) ≡ true = grind (arith, nat_tests, e) in
      let told : row_lines (state_at t None k) (cells_at t k) true ≡ lines_at Unknown t k (length (marks_above t.config t.height k)) = (rw is at (row_lines-are t None tt apart fits k below)) in
      ap (λ l. continued (lines_printed (state_at t None k)) l) (told ∙ sym (open_lines k below))

  rows-live : (j k : ℕ) → k + suc j ≡ t.rows → rows_text (state_at t None k) (texts_from t k (suc j)) ≡ live_text (state_at t None k) (texts_from t k (suc j))
  unfolding rows_text live_text texts_from
  rows-live zero k e = ap₂ (λ (x y : Text). x ++ y) (last_same k (omega (arith, e))) (ended-same (state_at t None k) (cells_at t k))
  rows-live (suc j) k e =
      let below : k < t.rows = omega (arith, e) in
      let is : ((k + 1) == t.rows) ≡ false = grind (arith, nat_tests, e) in
      let after : after_row (state_at t None k) (cells_at t k) false ≡ state_at t None (k + 1) = (rw is at (after_row-is t None tt apart fits k below)) in
      ap (λ (x : Text). row_text (state_at t None k) (cells_at t k) false ++ x)
      (ap (λ q. rows_text q (texts_from t (k + 1) (suc j))) after ∙ rows-live j (k + 1) (omega (arith, e)) ∙ ap (λ q. live_text q (texts_from t (k + 1) (suc j))) (sym after))

pub live-make : LiveRowsMakeThePicture
live-make t fit some wide =
    let s : Printing = printer t.config t.columns t.width t.height t.color None in
    let apart = apart_from t.config.spans t.columns (fit_columns t.config.spans t.rows t.columns fit) in
    let start = start_is t None tt apart fit in
    let j : ℕ = t.rows - 1 in
    let e : suc j ≡ t.rows = omega (arith, some) in
    let same = subst (λ n. rows_text (state_at t None 0) (texts_from t 0 n) ≡ live_text (state_at t None 0) (texts_from t 0 n)) e (rows-live t apart fit j 0 (omega (arith, some))) in
    ap (λ l. live_text s l) (rows-from t 0 t.rows)
    ∙ ap (λ q. live_text q (texts_from t 0 t.rows)) start ∙ sym same ∙ ap (λ q. rows_text q (texts_from t 0 t.rows)) (sym start)
    ∙ ap (λ l. rows_text s l) (sym (rows-from t 0 t.rows)) ∙ rows-make t None tt fit some wide

-- ---- rows that are read one by one: the row that comes next, and what is still to be printed

module _ {S A : Type 0} (is_row : A → List Text → Type 0) (steps : S → Option A → S → Type 0) where
  -- the row that was taken next is the first of those that were left
  pub record NextRow (row : A) (rows : S) (texts : List (List Text)) : Type 0 where
    pub cells : List Text
    pub others : List (List Text)
    pub all : texts ≡ cells ∷ others
    pub from : AreRowsFrom is_row steps row rows cells others

  pub next-row : (s : S) (row : A) (t : S) (texts : List (List Text)) → AlwaysGives is_row steps s texts → steps s (Some row) t → NextRow row t texts
  next-row s row t [] gives step = absurd (gives row t step)
  next-row s row t (cells ∷ others) gives step = let (is, more) = gives.1 row t step in record { cells = cells; others = others; all = refl; from = record { first = is; others = more } }

  pub no-row : (s t : S) (texts : List (List Text)) → AlwaysGives is_row steps s texts → steps s None t → texts ≡ []
  no-row s t [] gives step = refl
  no-row s t (cells ∷ others) gives step = absurd (gives.0 t step)

  -- the buffer has gained the text of the rows so far, and the row that was taken and those behind it make the rest of the text
  pub record Printed {Z : Type 0} (old now : String Z) (row : A) (rows : S) (s : Printing) (all : Text) : Type 0 where
    pub cells : List Text
    pub texts : List (List Text)
    pub from : AreRowsFrom is_row steps row rows cells texts
    pub so_far : Text
    pub gained : Gained old now so_far
    pub is : all ≡ so_far ++ rows_text s (cells ∷ texts)

-- one row more of the text
pub rows_text-more : (s : Printing) (cells : List Text) (texts : List (List Text)) (next : List Text) (others : List (List Text)) → texts ≡ next ∷ others
    → rows_text s (cells ∷ texts) ≡ row_text s cells false ++ rows_text (after_row s cells false) (next ∷ others)
unfolding rows_text
rows_text-more s cells texts next others all = rw all refl

pub rows_text-last : (s : Printing) (cells : List Text) (texts : List (List Text)) → texts ≡ [] → rows_text s (cells ∷ texts) ≡ row_text s cells true ++ finish_text (after_row s cells true)
unfolding rows_text
rows_text-last s cells texts all = rw all refl

-- the conditions of a row, and those of the rows behind it
pub row-fits : (s : Printing) (cells : List Text) (texts : List (List Text)) (next : List Text) (others : List (List Text)) → texts ≡ next ∷ others → RowsFit s (cells ∷ texts)
    → RowFits s cells false × RowsFit (after_row s cells false) (next ∷ others)
row-fits s cells texts next others all fit = subst (λ (rows : List (List Text)). RowsFit s (cells ∷ rows)) all fit

pub last-fits : (s : Printing) (cells : List Text) (texts : List (List Text)) → texts ≡ [] → RowsFit s (cells ∷ texts) → RowFits s cells true
last-fits s cells texts all fit = subst (λ (rows : List (List Text)). RowsFit s (cells ∷ rows)) all fit

-- rows make the picture
pub ruleset pictures_of_rows = (rows-make, live-make, may-be-printed)
