-- Tables whose texts are fitted: what they draw, how wide their lines are and their columns.
use Rattle.std.proofs.Common.{◌≡◌, ℕ, zero, suc, ◌+◌, ◌-◌, ◌^◌, ◌<◌, ◌≤◌, ◌==◌, ◌&&◌, ◌||◌, true, false, Bool, cond, not, nat_lt, max, List, [], map, length, get_or, slice_index, sum, sum_by, refl, sym, ap, subst, ◌∙◌, arith, inl, inr, Option, Some, None, Result, Ok, Err, IfOk}
use Rattle.std.proofs.lemmas.Bool.Decides.{nat_tests}
use Rattle.std.proofs.lemmas.List.{get_or_default}
use Rattle.std.proofs.lemmas.List.FromFn.{length-map-range_with_len, get_or-map-range_with_len}
use Rattle.std.proofs.lemmas.List.Sums.{sum_by-cons}
use Rattle.std.specs.List.{range_with_len}
use Rattle.std.specs.Result.{result_err}
use Rattle.std.proofs.lemmas.Bool.{cases_Bool, and_from, and_parts}
use Rattle.pg_layout.specs.declared.position.Position.{Position}
use Rattle.pg_layout.specs.Colors.{Color}
use Rattle.pg_layout.specs.Position.{at}
use Rattle.pg_layout.specs.Records.{text_at}
use Rattle.pg_layout.specs.Text.{Text, greatest}
use Rattle.pg_layout.proofs.TextLines.{greatest-reaches}
use Rattle.pg_config.specs.Config.{Config, count_vertical}
use Rattle.pg_fit.specs.declared.narrowing.ColumnRange.{ColumnRange}
use Rattle.pg_fit.specs.Narrowing.{narrowed, least_total, none}
use Rattle.pg_fit.proofs.NarrowedWidths.{fills, within_ranges}
use Rattle.pg_fit.specs.Overlaid.{Overlay, other_text, row_from, overlaid}
use Rattle.pg_picture.specs.Table.{Table, full_width, total_width}
use Rattle.pg_picture.proofs.OwnersOfPlaces.{InOrder}
use Rattle.pg_table.specs.declared.overflow.Overflow.{Overflow}
use Rattle.pg_table.specs.Fitted.{least_column_width, least_width_at, least_full_width, column_texts, fitted_at, fitted_texts, fitted_table, fit_fault}
use Rattle.pg_table.specs.Ranges.{ranged, range_of, ranged_column, ranged_widths, ranged_table, ranged_least_width}
use Rattle.pg_table.specs.Inside.{AreFittedAlone, AreFittedTogether, IsFitted, plain_full_width}
use Rattle.pg_table.specs.Natural.{natural_sizes, natural_table, is_single, widened, all_fit, cells_fit}
use Rattle.pg_table.specs.Printing.{sizes_fault, sizes_fault_of}
use Rattle.pg_table.specs.declared.fault.TableFault.{TableFault}
use Rattle.pg_table.specs.declared.fault.TableFault.TheVariants.{Memory, Totals}
use Rattle.pg_table.specs.declared.sizes.Axis.TheVariants.{Columns, Rows}
use Rattle.pg_table.specs.Overflowing.{beside_columns, limit_of, HasPlainTail}
use Rattle.pg_table.specs.Spanning.{keeps_spans, least_cell_width, singles_width, room_needed, width_for, spanned_least_width, table_from, spanned_text, spanned_texts, spanned_widths}
use Rattle.pg_table.proofs.FittedColumns.{same-listed, sum-places, length-fitted}
use Rattle.pg_table.proofs.Faults.{fit-passes, sizes-past}
use Rattle.pg_table.proofs.FitFaults.{no-cells, unkept, not-both, same-fault, fault-spans, fault-none, told-fits}
use Rattle.pg_table.proofs.ListedSizes.{size-at}
use Rattle.pg_table.proofs.NaturalRoom.{no-spans}
use Rattle.pg_table.proofs.FittedPlaces.{texts-are, table-is, table-narrow, columns-limited}
use Rattle.pg_table.proofs.SpannedWidths.{width-is, full-is, rooms, sum-widths, width-limited, least-kept, full-kept, length-naturals}
use Rattle.pg_table.proofs.Widenings.{sum-le, sum-same, widened-stays}
use Rattle.pg_table.proofs.ToldTables.{plain-table}
use Rattle.pg_table.proofs.ToldRooms.{HaveRoom}

module _ (how : Overflow) (total : ℕ) (limits : List ℕ) (config : Config) (texts : List (List Text)) (columns : ℕ) where
  texts-kept : keeps_spans config texts columns ≡ true → fitted_texts how total limits config texts columns ≡ spanned_texts how (spanned_widths how total limits config texts columns) config texts columns
  unfolding fitted_texts
  texts-kept kept = rw kept refl

  texts-plain : keeps_spans config texts columns ≡ false → fitted_texts how total limits config texts columns ≡ column_texts how total limits config texts columns
  unfolding fitted_texts
  texts-plain unkept = rw unkept refl

  unkept-fitted : keeps_spans config texts columns ≡ false → keeps_spans config (column_texts how total limits config texts columns) columns ≡ false
  unkept-fitted unkept = ap (λ n. not ((n == 0) || (columns == 0)) && not (length config.spans == 0)) (length-fitted how total limits config texts columns) ∙ unkept

  least-plain : keeps_spans config texts columns ≡ false → (k : ℕ) → least_width_at how config texts columns k ≡ least_column_width how config (text_at texts) (length texts) k
  unfolding least_width_at
  least-plain unkept k = rw unkept refl

  pub full-plain : keeps_spans config texts columns ≡ false → least_full_width how config texts columns ≡ plain_full_width how config texts columns
  unfolding least_full_width plain_full_width
  full-plain unkept = ap (λ n. n + beside_columns config columns) (sum-same (least_width_at how config texts columns) (least_column_width how config (text_at texts) (length texts)) 0 columns (λ k _ _. least-plain unkept k))

-- the records with their fitted texts
overlaid-together : {R Z : Type 0} (f : R → List (List Text)) (g : R → ℕ) (o : Overlay R Z) (how : Overflow) (total : ℕ) (limits : List ℕ) (config : Config) (ws : List ℕ) → AreFittedTogether how total limits config (f o.records) (g o.records) ws (other_text o.others (f o.records)) → overlaid f g o ≡ spanned_texts how ws config (f o.records) (g o.records)
unfolding spanned_texts
overlaid-together f g o how total limits config ws fits =
    let rows : length (f o.records) - 0 ≡ length (f o.records) = omega arith in
    let columns : g o.records - 0 ≡ g o.records = omega arith in
    ap (λ n. map (λ r. row_from f g o r 0) (range_with_len 0 n)) rows
    ∙ same-listed (λ r. row_from f g o r 0) (λ r. map (λ c. spanned_text how ws config (f o.records) (g o.records) (at r c)) (range_with_len 0 (g o.records))) 0 (length (f o.records)) (λ r _ h.
    ap (λ n. map (λ c. other_text o.others (f o.records) (at r c)) (range_with_len 0 n)) columns
    ∙ same-listed (λ c. other_text o.others (f o.records) (at r c)) (λ c. spanned_text how ws config (f o.records) (g o.records) (at r c)) 0 (g o.records) (λ c _ k. fits.all.fitted (at r c) (omega (arith, h)) (omega (arith, k)) (inl (omega (arith, h)))))

module _ {R Z : Type 0} (f : R → List (List Text)) (g : R → ℕ) (o : Overlay R Z) (r : R) (is : o.records ≡ r) (how : Overflow) (total : ℕ) (limits : List ℕ) (config : Config) (ws : List ℕ) (fits : IsFitted how total limits config (f r) (g r) ws (other_text o.others (f r))) (color : Position → Option Color) where
  abbrev drawn : Table
  drawn = table_from ws config (overlaid f g o) (g o.records) color

  -- ---- where spans are kept

  module _ (kept : keeps_spans config (f r) (g r) ≡ true) where
    abbrev together : AreFittedTogether how total limits config (f r) (g r) ws (other_text o.others (f r))
    together = fits.together kept

    order : InOrder config.spans (length (f r)) (g r)
    order = record { ascending = together.ascending; fit = together.spans }

    texts-together : overlaid f g o ≡ spanned_texts how ws config (f r) (g r)
    texts-together =
        ap (λ (x : R). overlaid f g (record { records = x; others = o.others })) is
        ∙ overlaid-together f g (record { records = r; others = o.others }) how total limits config ws together

    table-kept : drawn ≡ fitted_table how total limits config (f r) (g r) color
    table-kept =
        (λ i. table_from ws config (texts-together i) (g (is i)) color)
        ∙ ap (λ (xs : List ℕ). table_from xs config (spanned_texts how xs config (f r) (g r)) (g r) color) together.widths_are
        ∙ ap (λ (ts : List (List Text)). table_from (spanned_widths how total limits config (f r) (g r)) config ts (g r) color) (sym (texts-kept how total limits config (f r) (g r) kept))

    abbrev own : Table
    own = table_from ws config (spanned_texts how ws config (f r) (g r)) (g r) color

    drawn-is : drawn ≡ own
    drawn-is = λ i. table_from ws config (texts-together i) (g (is i)) color

    have : HaveRoom config (length (f r)) (g r) (least_cell_width how config (text_at (f r))) (slice_index ws)
    have = rw together.widths_are (rooms how total limits config (f r) (g r) together.spans)

    width-kept : HasPlainTail how → (k : ℕ) → k < g r → drawn.width k ≡ slice_index ws k
    width-kept plain k h =
        ap (λ (t : Table). t.width k) drawn-is
        ∙ width-is how ws config (f r) (g r) order have plain (λ p i j. together.all.room p i j (inl i)) color kept k h

    full-width-kept : HasPlainTail how → full_width drawn ≡ sum_by (slice_index ws) (range_with_len 0 (g r)) + beside_columns config (g r)
    full-width-kept plain = ap full_width drawn-is ∙ full-is how ws config (f r) (g r) order have plain (λ p i j. together.all.room p i j (inl i)) color kept

    bound-kept : HasPlainTail how → full_width drawn ≤ max total (least_full_width how config (f r) (g r))
    bound-kept plain =
        omega (
          arith,
          full-width-kept plain,
          ap (λ (xs : List ℕ). sum_by (slice_index xs) (range_with_len 0 (g r))) together.widths_are,
          sum-widths how total limits config (f r) (g r),
          full-kept how total limits config (f r) (g r) kept,
        )

    limits-kept : HasPlainTail how → (k : ℕ) → k < g r → drawn.width k ≤ max (least_width_at how config (f r) (g r) k) (limit_of limits k)
    limits-kept plain k h =
        omega (
          arith,
          width-kept plain k h,
          ap (λ (xs : List ℕ). slice_index xs k) together.widths_are,
          width-limited how total limits config (f r) (g r) k h,
          least-kept how total limits config (f r) (g r) kept k,
        )

  -- ---- where none is kept

  module _ (unkept : keeps_spans config (f r) (g r) ≡ false) where
    abbrev alone : AreFittedAlone how total limits config (f r) (g r) (other_text o.others (f r))
    alone = fits.alone unkept

    abbrev plain_table : Table
    plain_table = natural_table config (column_texts how total limits config (f r) (g r)) (g r) color

    drawn-plain : drawn ≡ plain_table
    drawn-plain =
        (λ i. table_from ws config (texts-are f g o r is how total limits config alone.plain alone.fits color i) (g (is i)) color)
        ∙ plain-table ws config (column_texts how total limits config (f r) (g r)) (g r) color (unkept-fitted how total limits config (f r) (g r) unkept)

    drawn-natural : drawn ≡ natural_table config (overlaid f g o) (g o.records) color
    drawn-natural = drawn-plain ∙ sym (table-is f g o r is how total limits config alone.plain alone.fits color)

    table-plain : drawn ≡ fitted_table how total limits config (f r) (g r) color
    table-plain =
        drawn-plain
        ∙ sym (plain-table (spanned_widths how total limits config (f r) (g r)) config (column_texts how total limits config (f r) (g r)) (g r) color (unkept-fitted how total limits config (f r) (g r) unkept))
        ∙ ap (λ (ts : List (List Text)). table_from (spanned_widths how total limits config (f r) (g r)) config ts (g r) color) (sym (texts-plain how total limits config (f r) (g r) unkept))

    bound-plain : HasPlainTail how → full_width drawn ≤ max total (least_full_width how config (f r) (g r))
    bound-plain plain =
        omega (arith, ap full_width drawn-natural, table-narrow f g o r is how total limits config alone.plain alone.fits color plain, full-plain how total limits config (f r) (g r) unkept)

    limits-plain : HasPlainTail how → (k : ℕ) → k < g r → drawn.width k ≤ max (least_width_at how config (f r) (g r) k) (limit_of limits k)
    limits-plain plain k h =
        omega (
          arith,
          ap (λ (t : Table). t.width k) drawn-natural,
          columns-limited f g o r is how total limits config alone.plain alone.fits color plain k h,
          least-plain how total limits config (f r) (g r) unkept k,
        )

  pub table-fitted : drawn ≡ fitted_table how total limits config (f r) (g r) color
  table-fitted = elim (cases_Bool (keeps_spans config (f r) (g r))) [ inl kept ↦ table-kept kept | inr unkept ↦ table-plain unkept ]

  pub bound : HasPlainTail how → full_width drawn ≤ max total (least_full_width how config (f r) (g r))
  bound plain = elim (cases_Bool (keeps_spans config (f r) (g r))) [ inl kept ↦ bound-kept kept plain | inr unkept ↦ bound-plain unkept plain ]

  pub limited : HasPlainTail how → (k : ℕ) → k < g r → drawn.width k ≤ max (least_width_at how config (f r) (g r) k) (limit_of limits k)
  limited plain k h = elim (cases_Bool (keeps_spans config (f r) (g r))) [ inl kept ↦ limits-kept kept plain k h | inr unkept ↦ limits-plain unkept plain k h ]

-- ---- faults

-- what the natural table of the same parts tells
pub told-fault : {R C X : Type 0} (texts : R → List (List Text)) (columns : R → ℕ) {a b : R × Config × C × List ℕ} {r : Result X TableFault} → a ≡ b
    → ((fault : TableFault) → sizes_fault_of texts columns a ≡ Some fault → r ≡ Err fault) → (fault : TableFault) → sizes_fault_of texts columns b ≡ Some fault → r ≡ Err fault
told-fault texts columns {r} same h = subst (λ parts. (fault : TableFault) → sizes_fault_of texts columns parts ≡ Some fault → r ≡ Err fault) same h

pub told-memory : {R C X : Type 0} (texts : R → List (List Text)) (columns : R → ℕ) {a b : R × Config × C × List ℕ} {r : Result X TableFault} → a ≡ b
    → ((fault : TableFault) → sizes_fault_of texts columns a ≡ None → r ≡ Err fault → fault ≡ Memory) → (fault : TableFault) → sizes_fault_of texts columns b ≡ None → r ≡ Err fault → fault ≡ Memory
told-memory texts columns {r} same h = subst (λ parts. (fault : TableFault) → sizes_fault_of texts columns parts ≡ None → r ≡ Err fault → fault ≡ Memory) same h

pub err-same : {X : Type 0} (a b : TableFault) → ◌≡◌ {A = Result X TableFault} (Err a) (Err b) → a ≡ b
err-same a b e = same-fault a b (ap result_err e)

-- a table with cells that has natural sizes, and whose columns can be counted, is fitted
pub sized-fits : (config : Config) (texts : List (List Text)) (columns : ℕ) → ((length texts == 0) || (columns == 0)) ≡ false → columns < 2 ^ 64 - 1 → sizes_fault config texts columns ≡ None → fit_fault config texts columns ≡ None
sized-fits config texts columns some counted sized =
    let wide : Bool = all_fit (natural_sizes Columns config texts columns) in
    let high : Bool = all_fit (natural_sizes Rows config texts columns) in
    let shown : Bool = cells_fit config (text_at texts) (length texts) columns in
    elim (cases_Bool (not (length config.spans == 0))) [
      | inl kept ↦ fault-spans config texts columns some kept ∙ sized
      | inr plain ↦ elim (cases_Bool ((wide && high) && shown)) [
        | inl all ↦
            let low : nat_lt columns (2 ^ 64 - 1) ≡ true = grind (arith, nat_tests, counted) in
            fault-none config texts columns some plain (and_from (nat_lt columns (2 ^ 64 - 1)) wide low (and_parts wide high (and_parts (wide && high) shown all).0).0)
        | inr past ↦ absurd (not-both _ Totals sized (sizes-past config texts columns (fit-passes _ _ (told-fits config texts columns some sized).0) past))
      ]
    ]

-- ---- columns with ranges

-- what is so of a value that was made is so of it with what follows
pub if-ok : {X E : Type 0} (P Q : X → Type 0) (r : Result X E) → ((x : X) → P x → Q x) → IfOk r P → IfOk r Q
if-ok P Q (Ok x) all h = all x h
if-ok P Q (Err e) all h = tt

module _ (how : Overflow) (config : Config) (texts : List (List Text)) (columns : ℕ) where
  abbrev least_size : Position → ℕ
  least_size p = least_cell_width how config (text_at texts) p

  -- without spans the least width of a column is that of its cells
  least-singles : config.spans ≡ [] → 0 < length texts → (k : ℕ) → least_column_width how config (text_at texts) (length texts) k ≡ spanned_least_width how config texts columns k
  unfolding least_column_width spanned_least_width width_for singles_width
  least-singles none some k =
      let base : ℕ → ℕ = λ c. max 0 (singles_width config (length texts) columns least_size c) in
      let wide : spanned_least_width how config texts columns k ≡ base k =
      ap (λ spans. widened base (map (room_needed config (length texts) columns least_size) spans) columns k) none
      ∙ widened-stays base [] (λ i d l. absurd (omega (arith, l))) columns k in
      let alone : singles_width config (length texts) columns least_size k ≡ greatest (map (λ r. least_size (at r k)) (range_with_len 0 (length texts))) =
      ap (λ spans. greatest (map (λ r. cond (is_single spans (at r k)) (least_size (at r k)) 0) (range_with_len 0 (length texts)))) none in
      omega (arith, wide, alone, greatest-reaches (λ r. least_size (at r k)) 0 (length texts) 0 (omega arith) (omega (arith, some)))

  -- of a table with cells, it is that with room for all of them
  pub least-is : ((length texts == 0) || (columns == 0)) ≡ false → (k : ℕ) → least_width_at how config texts columns k ≡ spanned_least_width how config texts columns k
  least-is some k = elim (cases_Bool (keeps_spans config texts columns)) [
    | inl kept ↦ least-kept how 0 [] config texts columns kept k
    | inr none ↦
        let plain : not (length config.spans == 0) ≡ false = unkept ((length texts == 0) || (columns == 0)) (not (length config.spans == 0)) none some in
        let spanless : (length config.spans == 0) ≡ true = grind (arith, plain) in
        let rows : 0 < length texts = grind (arith, nat_tests, some) in
        least-plain how 0 [] config texts columns none k ∙ least-singles (no-spans config.spans spanless) rows k
  ]

  -- without cells the texts are none, whatever the widths
  pub none-fitted : ((length texts == 0) || (columns == 0)) ≡ true → (t u : ℕ) (l m : List ℕ) → column_texts how t l config texts columns ≡ column_texts how u m config texts columns
  unfolding column_texts
  none-fitted empty t u l m = elim (cases_Bool (length texts == 0)) [
    | inl no_rows ↦ let none : length texts ≡ 0 = grind (arith, nat_tests, no_rows) in
        ap (λ n. map (λ r. map (λ c. fitted_at how t l config texts columns (at r c)) (range_with_len 0 columns)) (range_with_len 0 n)) none
        ∙ sym (ap (λ n. map (λ r. map (λ c. fitted_at how u m config texts columns (at r c)) (range_with_len 0 columns)) (range_with_len 0 n)) none)
    | inr rows ↦ let none : columns ≡ 0 = grind (arith, nat_tests, rows, empty) in
        ap (λ n. map (λ r. map (λ c. fitted_at how t l config texts columns (at r c)) (range_with_len 0 n)) (range_with_len 0 (length texts))) none
        ∙ sym (ap (λ n. map (λ r. map (λ c. fitted_at how u m config texts columns (at r c)) (range_with_len 0 n)) (range_with_len 0 (length texts))) none)
  ]

  module _ (ranges : List ColumnRange) where
    abbrev range : ℕ → ColumnRange
    range = ranged_column how ranges config texts columns

    abbrev made : List ColumnRange
    made = map range (range_with_len 0 columns)

    abbrev widths : ℕ → List ℕ
    widths total = ranged_widths how ranges config texts columns total

    -- the ranges of listed widths
    pub ranges-listed : ((length texts == 0) || (columns == 0)) ≡ false → (ls ns : List ℕ) → ls ≡ map (spanned_least_width how config texts columns) (range_with_len 0 columns) → ns ≡ natural_sizes Columns config texts columns
        → map (λ k. ranged (range_of ranges k) (slice_index ls k) (slice_index ns k)) (range_with_len 0 (length ns)) ≡ map (ranged_column how ranges config texts columns) (range_with_len 0 columns)
    ranges-listed some ls ns listed same =
        ap (λ n. map (λ k. ranged (range_of ranges k) (slice_index ls k) (slice_index ns k)) (range_with_len 0 n)) (ap length same ∙ length-naturals how 0 [] config texts columns)
        ∙ same-listed (λ k. ranged (range_of ranges k) (slice_index ls k) (slice_index ns k)) range 0 columns (λ k _ h.
        let low : slice_index ls k ≡ least_width_at how config texts columns k = ap (λ xs. slice_index xs k) listed ∙ size-at (spanned_least_width how config texts columns) columns k (omega (arith, h)) ∙ sym (least-is some k) in
        let wide : slice_index ns k ≡ slice_index (natural_sizes Columns config texts columns) k = ap (λ xs. slice_index xs k) same in
        λ i. ranged (range_of ranges k) (low i) (wide i))

    -- and the widths within them
    pub widths-ranged : (total room : ℕ) (cs : List ColumnRange) → room ≡ total - beside_columns config columns → cs ≡ map (ranged_column how ranges config texts columns) (range_with_len 0 columns) → narrowed room cs ≡ ranged_widths how ranges config texts columns total
    unfolding ranged_widths
    widths-ranged total room cs left all = λ i. narrowed (left i) (all i)

    length-made : length made ≡ columns
    length-made = length-map-range_with_len range 0 columns

    made-at : (k : ℕ) → k < columns → get_or made k none ≡ range k
    made-at k h = get_or-map-range_with_len range 0 columns k k none h (omega arith)

    length-ranged : (total : ℕ) → length (widths total) ≡ columns
    unfolding ranged_widths
    length-ranged total = (within_ranges (total - beside_columns config columns) made).0 ∙ length-made

    least-ranged : (total k : ℕ) → k < columns → least_width_at how config texts columns k ≤ slice_index (widths total) k
    unfolding ranged_widths
    least-ranged total k h = omega (arith, ((within_ranges (total - beside_columns config columns) made).1 k (omega (arith, h, length-made))).0, ap (λ (c : ColumnRange). c.least) (made-at k h))

    least-made : (a n : ℕ) → least_total (map range (range_with_len a n)) ≡ sum_by (λ k. (range k).least) (range_with_len a n)
    least-made a zero = refl
    least-made a (suc n) =
        omega (arith, sum_by-cons (λ (c : ColumnRange). c.least) (range a) (map range (range_with_len (a + 1) n)), sum_by-cons (λ k. (range k).least) a (range_with_len (a + 1) n), least-made (a + 1) n)

    sum-ranged : (total : ℕ) → sum_by (slice_index (widths total)) (range_with_len 0 columns) ≡ sum (widths total)
    sum-ranged total =
        ap (λ n. sum_by (slice_index (widths total)) (range_with_len 0 n)) (sym (length-ranged total))
        ∙ sum-places (slice_index (widths total)) (widths total) 0 (λ i l. ap (slice_index (widths total)) (let e : 0 + i ≡ i = omega arith in e))

    ranged-narrow : (total : ℕ) → sum_by (slice_index (widths total)) (range_with_len 0 columns) + beside_columns config columns ≤ max total (ranged_least_width how ranges config texts columns)
    unfolding ranged_widths ranged_least_width
    ranged-narrow total = omega (arith, sum-ranged total, fills (total - beside_columns config columns) made, least-made 0 columns)

    limit-ranged : (total k : ℕ) → k < columns → limit_of (widths total) k ≡ slice_index (widths total) k
    limit-ranged total k h = get_or_default (widths total) k (2 ^ 64 - 1) 0 (omega (arith, h, length-ranged total))

    -- a table whose columns are limited to these widths
    module _ (total : ℕ) (color : Position → Option Color) (t : Table) (is : t ≡ ranged_table how ranges config texts columns total color) where
      pub ranged-bound : ((k : ℕ) → k < columns → t.width k ≤ max (least_width_at how config texts columns k) (limit_of (ranged_widths how ranges config texts columns total) k))
          → full_width t ≤ max total (ranged_least_width how ranges config texts columns)
      unfolding full_width total_width
      ranged-bound limited =
          let at_columns : t.columns ≡ columns = ap (λ (x : Table). x.columns) is in
          let under : t.config ≡ config = ap (λ (x : Table). x.config) is in
          let wide : sum_by t.width (range_with_len 0 t.columns) ≡ sum_by t.width (range_with_len 0 columns) = ap (λ n. sum_by t.width (range_with_len 0 n)) at_columns in
          let beside : count_vertical t.config t.columns + (t.config.margin.left.size + t.config.margin.right.size) ≡ beside_columns config columns = λ i. beside_columns (under i) (at_columns i) in
          omega (
            arith,
            wide,
            beside,
            sum-le t.width (slice_index (widths total)) 0 columns (λ k _ h. omega (arith, limited k (omega (arith, h)), limit-ranged total k (omega (arith, h)), least-ranged total k (omega (arith, h)))),
            ranged-narrow total,
          )

    -- and so do its lines, where it was made
    pub bound-of : {X E : Type 0} (draws : X → Table) (total : ℕ) (color : Position → Option Color) (ws : List ℕ) → ws ≡ ranged_widths how ranges config texts columns total → (r : Result X E)
        → IfOk r (λ x. draws x ≡ fitted_table how (2 ^ 64 - 1) ws config texts columns color)
        → IfOk r (λ x. (k : ℕ) → k < columns → (draws x).width k ≤ max (least_width_at how config texts columns k) (limit_of ws k))
        → IfOk r (λ x. full_width (draws x) ≤ max total (ranged_least_width how ranges config texts columns))
    bound-of draws total color ws listed (Ok x) is each =
        ranged-bound total color (draws x) (is ∙ ap (λ l. fitted_table how (2 ^ 64 - 1) l config texts columns color) listed)
        (λ k h. subst (λ l. (draws x).width k ≤ max (least_width_at how config texts columns k) (limit_of l k)) listed (each k h))
    bound-of draws total color ws listed (Err e) is each = tt

    -- ranges narrow a table no further than its texts allow
    pub ranged-least : least_full_width how config texts columns ≤ ranged_least_width how ranges config texts columns
    unfolding least_full_width ranged_least_width
    ranged-least = omega (arith, sum-le (least_width_at how config texts columns) (λ k. (range k).least) 0 columns (λ k _ _. omega arith))

    -- a table without cells is the same whatever its width
    pub ranged-empty : ((length texts == 0) || (columns == 0)) ≡ true → (t total : ℕ) (color : Position → Option Color) → fitted_table how t [] config texts columns color ≡ ranged_table how ranges config texts columns total color
    ranged-empty empty t total color =
        let unkept_texts = no-cells ((length texts == 0) || (columns == 0)) (not (length config.spans == 0)) empty in
        let one = plain-fitted t [] unkept_texts color in
        let other = plain-fitted (2 ^ 64 - 1) (widths total) unkept_texts color in
        one ∙ ap (λ (ts : List (List Text)). natural_table config ts columns color) (none-fitted empty t (2 ^ 64 - 1) [] (widths total)) ∙ sym other
      where
        plain-fitted : (t : ℕ) (l : List ℕ) → keeps_spans config texts columns ≡ false → (color : Position → Option Color) → fitted_table how t l config texts columns color ≡ natural_table config (column_texts how t l config texts columns) columns color
        plain-fitted t l unkept_texts color =
            ap (λ (ts : List (List Text)). table_from (spanned_widths how t l config texts columns) config ts columns color) (texts-plain how t l config texts columns unkept_texts)
            ∙ plain-table (spanned_widths how t l config texts columns) config (column_texts how t l config texts columns) columns color (unkept-fitted how t l config texts columns unkept_texts)
