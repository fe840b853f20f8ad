-- Lines of a filled table are as wide as the width, and it fits where the table does.
use Rattle.std.proofs.Common.{◌≡◌, ℕ, suc, zero, ◌+◌, ◌-◌, ◌^◌, ◌<◌, ◌≤◌, ◌&&◌, ◌==◌, ◌||◌, nat_lt, nat_le, true, false, cond, max, not, List, [], ◌∷◌, set, length, map, slice_index, slice_index_or, sum_by, refl, sym, ap, subst, ◌∙◌, arith, inl, inr, Option, None, Ok, String}
use mathlib.Core.Path.{fun_ext}
use Rattle.std.specs.List.{range_with_len}
use Rattle.std.proofs.lemmas.List.{get_or-set_same, get_or-set_other, set-get_or, set_past}
use Rattle.std.proofs.lemmas.Bool.{cases_Bool, and_parts, eqb-true, eqb-false, eq-eqb, ne_eqb, ltb-true, ltb-false, lt-ltb, le-ltb}
use Rattle.std.proofs.lemmas.Bool.Decides.{nat_tests}
use Rattle.pg_layout.specs.Position.{at, is_at}
use Rattle.pg_layout.specs.declared.position.Position.{Position}
use Rattle.pg_layout.specs.Text.{Text}
use Rattle.pg_config.specs.Spans.{owner, rect_columns}
use Rattle.pg_picture.specs.Fits.{spans_fit, totals_fit, body_height, cell_fits, owner_fits, misfit_of, TableFits}
use Rattle.pg_picture.specs.Pieces.{Style, style_at, widest}
use Rattle.pg_picture.specs.Sizes.{sized}
use Rattle.pg_picture.specs.Straight.{CellsFit, IsStraight}
use Rattle.pg_picture.specs.Table.{Table, Known, full_width, total_width, is_empty, rect_width, rect_height, rect_marks}
use Rattle.pg_picture.proofs.FirstPlaces.{fits, fitting_tables_have_none}
use Rattle.pg_picture.proofs.FittingTables.{misfit-empty, totals_facts}
use Rattle.pg_layout.specs.Colors.{Color}
use Rattle.pg_layout.specs.Records.{text_at}
use Rattle.pg_config.specs.Config.{Config}
use Rattle.pg_table.specs.Even.{IsEven}
use Rattle.pg_table.specs.Fitted.{lacking, filled, fitted_texts, column_texts, fitted_at, fitted_table}
use Rattle.pg_table.specs.Natural.{cell_size, natural_size, natural_sizes}
use Rattle.pg_picture.specs.Picture.{picture}
use Rattle.pg_picture.proofs.Appending.{Appends-text, Gained-all, Gained-none}
use Rattle.pg_picture.proofs.Pictures.{picture-none}
use Rattle.pg_table.specs.Printing.{fault_of, is_spanned, Prints}
use Rattle.pg_table.specs.Spanning.{keeps_spans, width_for, widths_from, table_from, spanned_text, spanned_texts, spanned_widths}
use Rattle.pg_table.specs.declared.overflow.Overflow.{Overflow}
use Rattle.pg_table.specs.declared.sizes.Axis.TheVariants.{Columns, Rows}
use Rattle.pg_table.proofs.Faults.{fault-empty, fault-none}
use Rattle.pg_table.proofs.ListedSizes.{sum-below}
use Rattle.pg_table.proofs.StraightTables.{straight-of, even-of}
use Rattle.pg_table.proofs.ToldTables.{misfit-none}
use Rattle.std.proofs.lemmas.List.FromFn.{length-map-range_with_len}
use Rattle.pg_table.proofs.Widenings.{sum-le, sum-same}
use Rattle.std.proofs.lemmas.List.Sums.{sum_by-cons}

-- ---- one column more wide

module _ (w : ℕ → ℕ) (column columns more : ℕ) where
  abbrev pub raised : ℕ → ℕ
  raised k = cond ((k == column) && nat_lt k columns) (w k + more) (w k)

  raised-other : (k : ℕ) → (k ≡ column → ⊥) → raised k ≡ w k
  raised-other k other = rw (ne_eqb k column other) refl

  raised-past : (k : ℕ) → columns ≤ k → raised k ≡ w k
  raised-past k past =
      let above : nat_lt k columns ≡ false = le-ltb k columns past in
      elim (cases_Bool (k == column)) [
        | inl is ↦ rw (is, above) refl
        | inr is_not ↦ rw is_not refl
      ]

  raised-here : column < columns → raised column ≡ w column + more
  raised-here inside =
      let same : (column == column) ≡ true = eq-eqb column column refl in
      let below : nat_lt column columns ≡ true = lt-ltb column columns inside in
      rw (same, below) refl

  pub raised-least : (k : ℕ) → w k ≤ raised k
  raised-least k =
      elim (cases_Bool ((k == column) && nat_lt k columns)) [
        | inl is_so ↦ rw is_so (omega arith)
        | inr is_not ↦ rw is_not (omega arith)
      ]

  sum-before : (a n : ℕ) → column < a → sum_by raised (range_with_len a n) ≡ sum_by w (range_with_len a n)
  sum-before a n h = sum-same raised w a n (λ k l m. raised-other k (λ e. let f : ⊥ = omega (arith, h, l, e) in f))

  sum-around : (a n : ℕ) → column < columns → a ≤ column → column < a + n → sum_by raised (range_with_len a n) ≡ sum_by w (range_with_len a n) + more
  sum-around a zero inside low high = omega (arith, low, high)
  sum-around a (suc n) inside low high =
      elim (cases_Bool (a == column)) [
        | inl is ↦
            let same : a ≡ column = eqb-true a column is in
            omega (arith, sum_by-cons raised a (range_with_len (a + 1) n), sum_by-cons w a (range_with_len (a + 1) n), subst (λ k. raised k ≡ w k + more) (sym same) (raised-here inside), sum-before (a + 1) n (omega (arith, same)))
        | inr is_not ↦
            let other : a ≡ column → ⊥ = eqb-false a column is_not in
            let above : a + 1 ≤ column = grind (arith, nat_tests) in
            omega (arith, sum_by-cons raised a (range_with_len (a + 1) n), sum_by-cons w a (range_with_len (a + 1) n), raised-other a other, sum-around (a + 1) n inside above (omega (arith, high)))
      ]

  pub sum-raised : column < columns → sum_by raised (range_with_len 0 columns) ≡ sum_by w (range_with_len 0 columns) + more
  sum-raised inside = sum-around 0 columns inside (omega arith) (omega (arith, inside))

  pub sum-raised_past : columns ≤ column → sum_by raised (range_with_len 0 columns) ≡ sum_by w (range_with_len 0 columns)
  sum-raised_past past = sum-same raised w 0 columns (λ k _ l. raised-other k (λ e. let f : ⊥ = omega (arith, past, l, e) in f))

-- listed sizes, and the list of the widths with this column raised
abbrev pub listed : List ℕ → ℕ → ℕ
listed ws k = slice_index_or ws k 0

pub listed-raised : (ws : List ℕ) (column columns more : ℕ) → length ws ≡ columns → listed (set ws column (slice_index_or ws column 0 + more)) ≡ raised (listed ws) column columns more
listed-raised ws column columns more long =
    fun_ext (λ k.
    elim (cases_Bool (k == column)) [
      | inl is ↦
          let same : k ≡ column = eqb-true k column is in
          elim (cases_Bool (nat_lt k columns)) [
            | inl inside ↦ rw (is, inside) (ap (λ c. slice_index_or (set ws column (slice_index_or ws column 0 + more)) c 0) same
                ∙ get_or-set_same ws column (slice_index_or ws column 0 + more) 0 (omega (arith, ltb-true k columns inside, same, long))
                ∙ ap (λ c. slice_index_or ws c 0 + more) (sym same))
            | inr outside ↦ rw (is, outside) (ap (λ xs. slice_index_or xs k 0) (set_past ws column (slice_index_or ws column 0 + more) (omega (arith, ltb-false k columns outside, same, long))))
          ]
      | inr is_not ↦ rw is_not (get_or-set_other ws column k (slice_index_or ws column 0 + more) 0 (eqb-false k column is_not))
    ])

-- nothing more leaves them, and so does a column that isn't there
pub nothing_more : (ws : List ℕ) (column more : ℕ) → more ≡ 0 → set ws column (slice_index_or ws column 0 + more) ≡ ws
nothing_more ws column more none = let same : slice_index_or ws column 0 + more ≡ slice_index_or ws column 0 = omega (arith, none) in ap (λ n. set ws column n) same ∙ set-get_or ws column 0

pub past_more : (ws : List ℕ) (column width : ℕ) → length ws ≤ column → set ws column width ≡ ws
past_more ws column width past = set_past ws column width past

-- ---- the width of a line

module _ (t : Table) (total column : ℕ) where
  widths-by : sum_by (filled total column t).width (range_with_len 0 t.columns) ≡ sum_by (raised t.width column t.columns (lacking total t)) (range_with_len 0 t.columns)
  widths-by = refl

  pub lines-full : is_empty t ≡ false → column < t.columns → full_width (filled total column t) ≡ max total (full_width t)
  unfolding full_width total_width
  lines-full some inside =
      let lacks : lacking total t ≡ total - full_width t = rw some refl in
      omega (arith, widths-by, sum-raised t.width column t.columns (lacking total t) inside, lacks)

  lines-within : is_empty t ≡ false → full_width (filled total column t) ≤ max total (full_width t)
  unfolding full_width total_width
  lines-within some =
      elim (cases_Bool (nat_lt column t.columns)) [
        | inl is_so ↦ let inside : column < t.columns = ltb-true column t.columns is_so in omega (arith, lines-full some inside)
        | inr is_not ↦ let past : t.columns ≤ column = ltb-false column t.columns is_not in omega (arith, widths-by, sum-raised_past t.width column t.columns (lacking total t) past)
      ]

-- ---- wider columns leave cells their room

cell-wider : (style : Style) (text : Text) (w wide h : ℕ) → w ≤ wide → cell_fits style text w h ≡ true → cell_fits style text wide h ≡ true
unfolding cell_fits
cell-wider style text w wide h wider room =
    elim (cases_Bool (h == 0)) [
      | inl none ↦ rw none refl
      | inr some ↦
          let parts = and_parts (nat_le ((style.padding.left.size + style.padding.right.size) + widest style.formatting text) w) (nat_le style.padding.top.size h) (rw some at room) in
          let before : nat_le ((style.padding.left.size + style.padding.right.size) + widest style.formatting text) w ≡ true = parts.0 in
          let now : nat_le ((style.padding.left.size + style.padding.right.size) + widest style.formatting text) wide ≡ true = grind (arith, nat_tests) in
          rw (some, now, parts.1) refl
    ]

module _ (t : Table) (width : ℕ → ℕ) (least : (k : ℕ) → t.width k ≤ width k) where
  abbrev wide : Table
  wide = record t { width = width }

  rect-wider : (p : Position) → rect_width t p ≤ rect_width wide p
  unfolding rect_width
  rect-wider p = omega (arith, sum-le t.width width p.col (rect_columns t.config.spans p) (λ k _ _. least k))

  rect-high : (p : Position) → rect_height wide p ≡ rect_height t p
  unfolding rect_height rect_marks
  rect-high p = refl

  owner-wider : (p : Position) → owner_fits t p ≡ true → owner_fits wide p ≡ true
  unfolding owner_fits
  owner-wider p room =
      elim (cases_Bool (is_at (owner t.config.spans p.row p.col) p.row p.col)) [
        | inl own ↦
            let now : cell_fits (style_at t.config p) (t.text p) (rect_width wide p) (rect_height wide p) ≡ true =
            rw rect-high (cell-wider (style_at t.config p) (t.text p) (rect_width t p) (rect_width wide p) (rect_height t p) (rect-wider p) (rw own at room)) in
            rw own now
        | inr other ↦ rw other refl
      ]

totals-from : (t : Table) → t.rows < 2 ^ 64 - 1 → t.columns < 2 ^ 64 - 1 → full_width t < 2 ^ 64 → body_height t < 2 ^ 64 → totals_fit t ≡ true
unfolding totals_fit
totals-from t a b d e =
    let rows : nat_lt t.rows (2 ^ 64 - 1) ≡ true = grind (arith, nat_tests) in
    let columns : nat_lt t.columns (2 ^ 64 - 1) ≡ true = grind (arith, nat_tests) in
    let width : nat_lt (full_width t) (2 ^ 64) ≡ true = grind (arith, nat_tests) in
    let height : nat_lt (body_height t) (2 ^ 64) ≡ true = grind (arith, nat_tests) in
    rw (rows, columns, width, height) refl

same-height : (t : Table) (total column : ℕ) → body_height (filled total column t) ≡ body_height t
unfolding body_height
same-height t total column = refl

pub filled-fits : (t : Table) (total column : ℕ) → total < 2 ^ 64 → misfit_of t ≡ None → misfit_of (filled total column t) ≡ None
filled-fits t total column number none =
    elim (cases_Bool (is_empty t)) [
      | inl empty ↦ misfit-empty (filled total column t) empty
      | inr some ↦
          let rows : 0 < t.rows = grind (arith, nat_tests) in
          let columns : 0 < t.columns = grind (arith, nat_tests) in
          let fit = fits t none rows columns in
          let facts = totals_facts t fit.totals in
          fitting_tables_have_none (filled total column t) (record {
            spans = fit.spans;
            totals = totals-from (filled total column t) facts.rows facts.columns (omega (arith, lines-within t total column some, facts.width, number)) (rw (same-height t total column) facts.height);
            rooms = λ r c h k. owner-wider t (raised t.width column t.columns (lacking total t)) (raised-least t.width column t.columns (lacking total t)) (at r c) (fit.rooms r c h k);
          })
    ]

-- ---- fitted tables

pub widths-long : (told : List ℕ) (config : Config) (texts : List (List Text)) (columns : ℕ) → length (widths_from told config texts columns) ≡ columns
unfolding natural_sizes
widths-long [] config texts columns = length-map-range_with_len (natural_size Columns config (text_at texts) (length texts) columns) 0 columns
widths-long (first ∷ told) config texts columns =
    elim (cases_Bool (keeps_spans config texts columns)) [
      | inl kept ↦ rw kept (length-map-range_with_len (width_for config (length texts) columns (cell_size Columns config (text_at texts)) (slice_index (first ∷ told))) 0 columns)
      | inr unkept ↦ rw unkept (length-map-range_with_len (natural_size Columns config (text_at texts) (length texts) columns) 0 columns)
    ]

module _ (told : List ℕ) (config : Config) (texts : List (List Text)) (columns : ℕ) (color : Position → Option Color) where
  abbrev t : Table
  t = table_from told config texts columns color

  pub fits-none : fault_of t ≡ None → misfit_of t ≡ None
  fits-none none =
      elim (cases_Bool (is_empty t)) [
        | inl empty ↦ misfit-empty t empty
        | inr some ↦ let facts = fault-none t some none in misfit-none told config texts columns color facts.0 facts.1
      ]

  -- what the width of the column is with what the lines lack
  pub widen-fits : (total column : ℕ) → total < 2 ^ 64 → fault_of t ≡ None → 0 < lacking total t → column < columns → t.width column + lacking total t < 2 ^ 64
  unfolding full_width total_width
  widen-fits total column number none more inside =
      elim (cases_Bool (is_empty t)) [
        | inl empty ↦ let none_lacks : lacking total t ≡ 0 = rw empty refl in absurd (omega (arith, none_lacks, more))
        | inr some ↦
            let facts = fault-none t some none in
            let width : full_width t < 2 ^ 64 = (totals_facts t facts.1).width in
            let lacks : lacking total t ≡ total - full_width t = rw some refl in
            omega (arith, lacks, width, number, sum-below t.width column columns inside)
      ]

  -- the table at the list of widths with this column raised
  pub filled-is : (total column : ℕ) (ws hs : List ℕ) → ws ≡ set (widths_from told config texts columns) column (slice_index_or (widths_from told config texts columns) column 0 + lacking total t)
      → hs ≡ natural_sizes Rows config texts columns
      → record t { width = listed ws; height = listed hs } ≡ filled total column t
  filled-is total column ws hs wide high =
      ap (λ (xs : List ℕ). record t { width = listed xs; height = listed hs }) wide
      ∙ ap (λ (xs : List ℕ). record t { width = listed (set (widths_from told config texts columns) column (slice_index_or (widths_from told config texts columns) column 0 + lacking total t)); height = listed xs }) high
      ∙ ap (λ (width : ℕ → ℕ). record t { width = width }) (listed-raised (widths_from told config texts columns) column columns (lacking total t) (widths-long told config texts columns))

-- nothing is printed of a table without cells
pub prints-none : {Z : Type 0} (t : Table) (total column : ℕ) (buf : String Z) → is_empty t ≡ true → Prints (is_spanned t) (fault_of t) buf buf (Ok (tt {0})) (picture Known (filled total column t))
prints-none t total column buf empty = rw (fault-empty t empty) (inl (Appends-text (sym (picture-none Known (filled total column t) empty)) (Gained-all (Gained-none buf))), λ fault e. cc)

-- lines of a table that fits
module _ (t : Table) (none : misfit_of t ≡ None) where
  cells : 0 < t.rows → 0 < t.columns → CellsFit t
  cells rows columns = let fitting = fits t none rows columns in record { spans = fitting.spans; rooms = fitting.rooms }

  pub straight : IsStraight t
  straight = straight-of t cells

  pub even : IsEven t
  even = even-of t cells

-- a line of listed widths is as wide as one of the table that has them
pub listed-width : (t : Table) (ws : List ℕ) (height : ℕ → ℕ) → listed ws ≡ t.width → full_width (sized t.config (listed ws) height 0 t.columns) ≡ full_width t
unfolding full_width total_width
listed-width t ws height same = ap (λ (width : ℕ → ℕ). full_width (sized t.config width height 0 t.columns)) same

-- a fitted table has the rows and columns that it had
module _ (how : Overflow) (total : ℕ) (limits : List ℕ) (config : Config) (texts : List (List Text)) (columns : ℕ) where
  length-fitted : length (fitted_texts how total limits config texts columns) ≡ length texts
  unfolding fitted_texts column_texts spanned_texts
  length-fitted =
      elim (cases_Bool (keeps_spans config texts columns)) [
        | inl kept ↦ rw kept (length-map-range_with_len (λ r. map (λ c. spanned_text how (spanned_widths how total limits config texts columns) config texts columns (at r c)) (range_with_len 0 columns)) 0 (length texts))
        | inr unkept ↦ rw unkept (length-map-range_with_len (λ r. map (λ c. fitted_at how total limits config texts columns (at r c)) (range_with_len 0 columns)) 0 (length texts))
      ]

  pub fitted-empty : (color : Position → Option Color) → is_empty (fitted_table how total limits config texts columns color) ≡ ((length texts == 0) || (columns == 0))
  fitted-empty color = ap (λ n. (n == 0) || (columns == 0)) length-fitted
