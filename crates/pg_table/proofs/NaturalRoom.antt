-- A table at its natural sizes has room for its cells, shows each line, and has these totals; and the size of a column or a row without spans.
use Rattle.std.proofs.Common.{◌≡◌, ℕ, ◌+◌, ◌-◌, ◌<◌, ◌≤◌, ◌&&◌, ◌==◌, true, false, not, nat_le, cond, List, [], map, length, find, sum_by, count_by, All, refl, sym, ap, ◌∙◌, subst, arith}
use Rattle.std.proofs.Common.{Option, Some, None, inl, inr, slice_index, ◌⊎◌, ◌||◌, ◌∷◌}
use Rattle.std.specs.List.{range_with_len, list_all}
use Rattle.std.proofs.lemmas.Bool.{cases_Bool, and_from, and_parts, or_right, false≢true, cases_lt}
use Rattle.std.proofs.lemmas.Bool.Decides.{nat_tests}
use Rattle.pg_layout.specs.declared.position.Position.{Position}
use Rattle.pg_layout.specs.Colors.{Color}
use Rattle.pg_layout.specs.Position.{at, is_at}
use Rattle.pg_layout.specs.Records.{text_at}
use Rattle.pg_layout.specs.Text.{Text}
use Rattle.pg_config.specs.Config.{Config, has_vertical, has_horizontal, count_vertical, count_horizontal}
use Rattle.pg_config.specs.Spans.{Span, corner, in_span, owner, size_of, span_size, rect_rows, rect_columns}
use Rattle.pg_config.specs.declared.spans.SpanSize.{SpanSize}
use Rattle.pg_config.proofs.EqualLines.{rows_stay}
use Rattle.pg_picture.specs.Fits.{TableFits, span_fits, all_apart, spans_fit, totals_fit, cell_fits, owner_fits, misfit_of, body_height}
use Rattle.pg_picture.specs.Pieces.{Style, style_at, widest, shown}
use Rattle.pg_picture.specs.Table.{Table, is_empty, rect_width, rect_height, full_width, total_width, rect_marks}
use Rattle.pg_picture.specs.declared.fits.Misfit.TheVariants.{Spans}
use Rattle.pg_picture.proofs.FittingTables.{widths_fit, heights_fit, misfit-empty, rect_height-one_row, unshown-empty, cell_shows_all-by_count, rect_inside, rect_width_fits}
use Rattle.pg_picture.proofs.FittingTables.{rect_height_fits}
use Rattle.pg_picture.proofs.MarksOfRectangles.{height_of_rect-sum, rect_height-of_rect}
use Rattle.pg_picture.proofs.OwnersOfPlaces.{Among, find_cases}
use Rattle.pg_picture.proofs.Owners.{is_at-same}
use Rattle.pg_picture.proofs.FirstPlaces.{misfit_of-totals, fitting_tables_have_none, none_failed, unshown_of-misfit, unshown_of-cell, fits}
use Rattle.pg_table.specs.Laws.{NaturalTablesHaveRoom, PlainSizes, NaturalHeightsShowAll, table_of_widths}
use Rattle.pg_table.specs.Natural.{cell_size, cell_at, count, count_cells, is_single, size_of_singles, need_of, natural_size, natural_sizes, natural_table, all_fit, is_sized, cells_fit}
use Rattle.pg_table.specs.Natural.{widened, paddings}
use Rattle.pg_table.specs.declared.needs.Need.{Need}
use Rattle.pg_table.specs.declared.sizes.Axis.{Axis}
use Rattle.pg_table.specs.declared.sizes.Axis.TheVariants.{Columns, Rows}
use Rattle.pg_table.proofs.ListedSizes.{cell-below, natural-with_cells, size-at, all_fit-each, sum-listed, natural-without_cells}
use Rattle.pg_table.proofs.Widenings.{cells_have_room, no_column_shrinks, widened-stays, widened-base, sum-same}
use Rattle.pg_table.proofs.ShownCells.{fits-among, all-among, among-all, size-single, size-corner, IsCorner, shown-cases, sized-from, cells-from}
use Rattle.std.proofs.lemmas.List.FromFn.{length-map-range_with_len, get_or-map-range_with_len, fill_by_all}
use Rattle.pg_table.specs.Inside.{with_room, plain_size, HasPlainWidths}
use Rattle.pg_picture.specs.Shown.{cell_shows_all, owner_shows_all, misfit_or_cell}
use Rattle.pg_picture.specs.declared.fits.Misfit.{Misfit}
use Rattle.pg_layout.proofs.TextLines.{greatest-reaches}

-- ---- a table at its natural sizes has room for its cells

-- ---- a table at its natural sizes has room for each of its shown cells

-- a cell at least as wide as its paddings and its text, and at least as high as its top padding
pub has_room : (style : Style) (text : Text) (w h : ℕ) → (style.padding.left.size + style.padding.right.size) + widest style.formatting text ≤ w → style.padding.top.size ≤ h → cell_fits style text w h ≡ true
unfolding cell_fits
has_room style text w h wide high =
    let across : nat_le ((style.padding.left.size + style.padding.right.size) + widest style.formatting text) w ≡ true = grind (arith, nat_tests, wide) in
    let down : nat_le style.padding.top.size h ≡ true = grind (arith, nat_tests, high) in
    or_right (h == 0) _ (and_from _ _ across down)

-- a rectangle that fits
pub record Inside (rows columns : ℕ) (s : Span) : Type 0 where
  pub some_rows : 0 < s.1.rows
  pub some_columns : 0 < s.1.columns
  pub columns_end : s.0.col + s.1.columns ≤ columns
  pub rows_end : s.0.row + s.1.rows ≤ rows

pub inside-of : (rows columns : ℕ) (s : Span) → span_fits rows columns s ≡ true → Inside rows columns s
inside-of rows columns s h = record { some_rows = grind (arith, nat_tests, h); some_columns = grind (arith, nat_tests, h); columns_end = grind (arith, nat_tests, h); rows_end = grind (arith, nat_tests, h) }

module _ (config : Config) (texts : List (List Text)) (columns : ℕ) (color : Position → Option Color) where
  abbrev table : Table
  table = natural_table config texts columns color

  -- the natural size of column or row k, and its place in the list
  abbrev pub size : Axis → ℕ → ℕ
  size axis k = natural_size axis config (text_at texts) (length texts) columns k

  pub width-at : (c : ℕ) → c < columns → table.width c ≡ size Columns c
  unfolding natural_sizes
  width-at c h = size-at (size Columns) columns c h

  pub height-at : (r : ℕ) → r < length texts → table.height r ≡ size Rows r
  unfolding natural_sizes
  height-at r h = size-at (size Rows) (length texts) r h

  -- ---- cells without a span

  -- such a cell is no wider than its column, and no higher than its row
  pub single_below : (axis : Axis) (k j : ℕ) → j < count_cells axis (length texts) columns → is_single config.spans (cell_at axis k j) ≡ true → cell_size axis config (text_at texts) (cell_at axis k j) ≤ size axis k
  single_below axis k j h single =
      omega (
        arith,
        cell-below axis config (text_at texts) (count_cells axis (length texts) columns) k j h single,
        natural-with_cells axis config (text_at texts) (length texts) columns k (omega (arith, h)),
        no_column_shrinks (size_of_singles axis config (text_at texts) (count_cells axis (length texts) columns)) (map (need_of axis config (text_at texts) (count axis (length texts) columns)) config.spans) (count axis (length texts) columns) k,
      )

  module _ (fit : spans_fit config.spans (length texts) columns ≡ true) where
    pub all_fits : list_all (span_fits (length texts) columns) config.spans ≡ true
    unfolding spans_fit
    all_fits = (and_parts (list_all (span_fits (length texts) columns) config.spans) (all_apart config.spans) fit).0

    pub inside : (s : Span) → Among config.spans s → Inside (length texts) columns s
    inside s m = inside-of (length texts) columns s (fits-among (length texts) columns config.spans all_fits s m)

    room_single : (r c : ℕ) → r < length texts → c < columns → find (in_span r c) config.spans ≡ None → cell_fits (style_at config (at r c)) (text_at texts (at r c)) (rect_width table (at r c)) (rect_height table (at r c)) ≡ true
    unfolding style_at rect_width rect_columns rect_rows
    room_single r c h k none =
        let one : size_of config.spans (at r c) ≡ span_size 1 1 = size-single (length texts) columns config.spans r c all_fits none in
        let one_column : rect_columns config.spans (at r c) ≡ 1 = ap (λ (z : SpanSize). z.columns) one in
        let one_row : rect_rows config.spans (at r c) ≡ 1 = ap (λ (z : SpanSize). z.rows) one in
        let single : is_single config.spans (at r c) ≡ true = rw none refl in
        let width : rect_width table (at r c) ≡ table.width c = rw one_column (omega arith) in
        has_room (style_at config (at r c)) (text_at texts (at r c)) (rect_width table (at r c)) (rect_height table (at r c))
        (omega (arith, width, width-at c k, single_below Columns c r h single))
        (omega (arith, rect_height-one_row table (at r c) one_row h, height-at r h, single_below Rows r c k single))

    -- ---- cells with a span

    abbrev pub needs : Axis → List Need
    needs axis = map (need_of axis config (text_at texts) (count axis (length texts) columns)) config.spans

    pub needs_some : (axis : Axis) → All (λ (need : Need). 0 < need.count) (needs axis)
    needs_some Columns = all-among (λ (need : Need). 0 < need.count) (need_of Columns config (text_at texts) columns) config.spans (λ s m. (inside s m).some_columns)
    needs_some Rows = all-among (λ (need : Need). 0 < need.count) (need_of Rows config (text_at texts) (length texts)) config.spans (λ s m. (inside s m).some_rows)

    needs_end : (axis : Axis) → All (λ (need : Need). need.count ≤ count axis (length texts) columns) (needs axis)
    needs_end Columns = all-among (λ (need : Need). need.count ≤ columns) (need_of Columns config (text_at texts) columns) config.spans (λ s m. omega (arith, (inside s m).columns_end))
    needs_end Rows = all-among (λ (need : Need). need.count ≤ length texts) (need_of Rows config (text_at texts) (length texts)) config.spans (λ s m. omega (arith, (inside s m).rows_end))

    pub needs_inside : (axis : Axis) → All (λ (need : Need). need.first + need.count ≤ count axis (length texts) columns) (needs axis)
    needs_inside Columns = all-among (λ (need : Need). need.first + need.count ≤ columns) (need_of Columns config (text_at texts) columns) config.spans (λ s m. (inside s m).columns_end)
    needs_inside Rows = all-among (λ (need : Need). need.first + need.count ≤ length texts) (need_of Rows config (text_at texts) (length texts)) config.spans (λ s m. (inside s m).rows_end)

    -- its columns, or its rows, are as large as it needs
    has_cells : (axis : Axis) (s : Span) → Among config.spans s → 0 < count_cells axis (length texts) columns
    has_cells Columns s m = omega (arith, (inside s m).some_rows, (inside s m).rows_end)
    has_cells Rows s m = omega (arith, (inside s m).some_columns, (inside s m).columns_end)

    pub span_room : (axis : Axis) (s : Span) → Among config.spans s
        → (need_of axis config (text_at texts) (count axis (length texts) columns) s).size
        ≤ sum_by (size axis) (range_with_len (need_of axis config (text_at texts) (count axis (length texts) columns) s).first (need_of axis config (text_at texts) (count axis (length texts) columns) s).count)
    span_room axis s m =
        let n : ℕ = count axis (length texts) columns in
        let base : ℕ → ℕ = size_of_singles axis config (text_at texts) (count_cells axis (length texts) columns) in
        let need : Need = need_of axis config (text_at texts) (count axis (length texts) columns) s in
        let room = among-all (λ (x : Need). x.size ≤ sum_by (widened base (needs axis) n) (range_with_len x.first x.count)) (need_of axis config (text_at texts) (count axis (length texts) columns)) config.spans
        (cells_have_room base (needs axis) n (needs_some axis) (needs_end axis)) s m in
        omega (arith, room, sum-same (size axis) (λ k. widened base (needs axis) n k) need.first need.count (λ k l h. natural-with_cells axis config (text_at texts) (length texts) columns k (has_cells axis s m)))

    pub wide_span : (s : Span) → Among config.spans s → size_of config.spans (corner s) ≡ s.1 → cell_size Columns config (text_at texts) (corner s) ≤ rect_width table (corner s)
    unfolding rect_width rect_columns
    wide_span s m one =
        let taken : rect_columns config.spans (corner s) ≡ s.1.columns = ap (λ (z : SpanSize). z.columns) one in
        let width : rect_width table (corner s) ≡ sum_by table.width (range_with_len s.0.col s.1.columns) + count_by (λ c. has_vertical config c columns) (range_with_len (s.0.col + 1) (s.1.columns - 1)) = rw taken refl in
        let sums = sum-same table.width (size Columns) s.0.col s.1.columns (λ k l h. width-at k (omega (arith, h, (inside s m).columns_end))) in
        let room : cell_size Columns config (text_at texts) (corner s) - count_by (λ c. has_vertical config c columns) (range_with_len (s.0.col + 1) (s.1.columns - 1)) ≤ sum_by (size Columns) (range_with_len s.0.col s.1.columns) = span_room Columns s m in
        omega (arith, width, sums, room)

    pub high_span : (s : Span) → Among config.spans s → size_of config.spans (corner s) ≡ s.1 → cell_size Rows config (text_at texts) (corner s) ≤ rect_height table (corner s)
    unfolding rect_rows
    high_span s m one =
        let taken : rect_rows config.spans (corner s) ≡ s.1.rows = ap (λ (z : SpanSize). z.rows) one in
        let ends = (inside s m).rows_end in
        let some = (inside s m).some_rows in
        let height = rect_height-of_rect table (corner s) (omega (arith, taken, some)) (omega (arith, taken, ends)) ∙ height_of_rect-sum config table.height (corner s) (omega (arith, taken, some)) in
        let told : rect_height table (corner s) ≡ sum_by table.height (range_with_len s.0.row s.1.rows) + count_by (λ r. has_horizontal config r (s.0.row + s.1.rows)) (range_with_len (s.0.row + 1) (s.1.rows - 1)) =
        subst (λ n. rect_height table (corner s) ≡ sum_by table.height (range_with_len s.0.row n) + count_by (λ r. has_horizontal config r (s.0.row + n)) (range_with_len (s.0.row + 1) (n - 1))) taken height in
        let sums = sum-same table.height (size Rows) s.0.row s.1.rows (λ k l h. height-at k (omega (arith, h, ends))) in
        let lines = sum-same (λ r. cond (has_horizontal config r (s.0.row + s.1.rows)) 1 0) (λ r. cond (has_horizontal config r (length texts)) 1 0) (s.0.row + 1) (s.1.rows - 1)
        (λ k l h. ap (λ b. cond b 1 0) (rows_stay config (at k 0) 0 (s.0.row + s.1.rows) (length texts) (omega (arith, h, some)) (omega (arith, h, some, ends))).line) in
        let room : cell_size Rows config (text_at texts) (corner s) - count_by (λ r. has_horizontal config r (length texts)) (range_with_len (s.0.row + 1) (s.1.rows - 1)) ≤ sum_by (size Rows) (range_with_len s.0.row s.1.rows) = span_room Rows s m in
        omega (arith, told, sums, lines, room)

    room_corner : (s : Span) → Among config.spans s → size_of config.spans (corner s) ≡ s.1 → cell_fits (style_at config (corner s)) (text_at texts (corner s)) (rect_width table (corner s)) (rect_height table (corner s)) ≡ true
    unfolding style_at
    room_corner s m one =
        has_room (style_at config (corner s)) (text_at texts (corner s)) (rect_width table (corner s)) (rect_height table (corner s))
        (wide_span s m one)
        (let high = high_span s m one in omega (arith, high))

    pub room : (r c : ℕ) → r < length texts → c < columns → owner_fits table (at r c) ≡ true
    unfolding owner_fits owner
    room r c h k =
        elim (find_cases (in_span r c) config.spans) [
          | inl none ↦ or_right (not _) _ (room_single r c h k none)
          | inr some ↦
              let s : Span = some.0 in
              elim (cases_Bool (is_at (corner s) r c)) [
                | inl own ↦
                    let same : corner s ≡ at r c = is_at-same (corner s) (at r c) own in
                    let one : size_of config.spans (at r c) ≡ s.1 = size-corner (length texts) columns config.spans s r c all_fits some.1 same in
                    or_right (not _) _
                    (subst (λ p. cell_fits (style_at config p) (text_at texts p) (rect_width table p) (rect_height table p) ≡ true) same
                    (room_corner s some.3 (subst (λ p. size_of config.spans p ≡ s.1) (sym same) one)))
                | inr other ↦ rw (some.1, other) refl
              ]
        ]

    pub table-fits : totals_fit table ≡ true → TableFits table
    table-fits totals = record { spans = fit; totals = totals; rooms = λ r c h k. room r c h k }

    pub misfit-none : totals_fit table ≡ true → misfit_of table ≡ None
    misfit-none totals = fitting_tables_have_none table (table-fits totals)

  -- ---- totals

  sum-widths : sum_by table.width (range_with_len 0 columns) ≡ sum_by (size Columns) (range_with_len 0 columns)
  unfolding natural_sizes
  sum-widths = sum-listed (size Columns) columns

  sum-heights : sum_by table.height (range_with_len 0 (length texts)) ≡ sum_by (size Rows) (range_with_len 0 (length texts))
  unfolding natural_sizes
  sum-heights = sum-listed (size Rows) (length texts)

  pub full_width-is : ((sum_by (size Columns) (range_with_len 0 columns) + count_vertical config columns) + config.margin.left.size) + config.margin.right.size ≡ full_width table
  unfolding full_width total_width
  full_width-is = omega (arith, sum-widths)

  pub body_height-is : sum_by (size Rows) (range_with_len 0 (length texts)) + count_horizontal config (length texts) ≡ body_height table
  unfolding body_height
  body_height-is = omega (arith, sum-heights)

  -- each size is part of a total
  pub all-fit : totals_fit table ≡ true → (all_fit (natural_sizes Columns config texts columns) && all_fit (natural_sizes Rows config texts columns)) ≡ true
  unfolding natural_sizes
  all-fit totals =
      and_from (all_fit (natural_sizes Columns config texts columns)) (all_fit (natural_sizes Rows config texts columns))
      (all_fit-each (size Columns) columns (λ c h. omega (arith, widths_fit table totals c h, width-at c h)))
      (all_fit-each (size Rows) (length texts) (λ r h. omega (arith, heights_fit table totals r h, height-at r h)))

no_spans_fit : (config : Config) (texts : List (List Text)) (columns : ℕ) (color : Position → Option Color) → is_empty (natural_table config texts columns color) ≡ false → spans_fit config.spans (length texts) columns ≡ false → misfit_of (natural_table config texts columns color) ≡ Some Spans
unfolding misfit_of
no_spans_fit config texts columns color some none = rw (some, none) refl

pub natural_tables_have_room : NaturalTablesHaveRoom
natural_tables_have_room config texts columns color =
    let t = natural_table config texts columns color in
    elim (cases_Bool (is_empty t)) [
      | inl y ↦ misfit-empty t y ∙ rw y refl
      | inr n ↦ elim (cases_Bool (spans_fit config.spans (length texts) columns)) [
        | inl fit ↦ elim (cases_Bool (totals_fit t)) [
          | inl z ↦ misfit-none config texts columns color fit z ∙ rw (n, fit, z) refl
          | inr m ↦ misfit_of-totals t n fit m ∙ rw (n, fit, m) refl
        ]
        | inr misfit ↦ no_spans_fit config texts columns color n misfit ∙ rw (n, misfit) refl
      ]
    ]

-- without spans a column is as wide as its widest cell
pub plain_tables_are_as_they_were : PlainSizes
unfolding size_of_singles
plain_tables_are_as_they_were axis config text rows columns k none some =
    natural-with_cells axis config text rows columns k some
    ∙ rw none (widened-stays (size_of_singles axis (record config { spans = [] }) text (count_cells axis rows columns)) [] (λ i d h. absurd (omega (arith, h))) (count axis rows columns) k)

-- ---- the sizes by single cells, widened, are the natural sizes

pub map-below : (f g : ℕ → ℕ) (n : ℕ) → ((k : ℕ) → k < n → f k ≡ g k) → map f (range_with_len 0 n) ≡ map g (range_with_len 0 n)
map-below f g n same = fill_by_all g (map f (range_with_len 0 n)) n 0 (length-map-range_with_len f 0 n) (λ k h. get_or-map-range_with_len f 0 n k k 0 h (omega arith) ∙ same k h)

pub widened_sizes : (axis : Axis) (config : Config) (texts : List (List Text)) (columns : ℕ) → spans_fit config.spans (length texts) columns ≡ true → 0 < count_cells axis (length texts) columns → (s : List ℕ)
    → s ≡ map (size_of_singles axis config (text_at texts) (count_cells axis (length texts) columns)) (range_with_len 0 (count axis (length texts) columns))
    → with_room axis config texts columns s ≡ natural_sizes axis config texts columns
unfolding natural_sizes with_room
widened_sizes axis config texts columns fit some s is =
    let n : ℕ = count axis (length texts) columns in
    let base : ℕ → ℕ = size_of_singles axis config (text_at texts) (count_cells axis (length texts) columns) in
    let ns : List Need = map (need_of axis config (text_at texts) (count axis (length texts) columns)) config.spans in
    map-below (widened (slice_index s) ns n) (λ k. natural_size axis config (text_at texts) (length texts) columns k) n (λ k h.
    widened-base (slice_index s) base ns n (needs_inside config texts columns (λ p. None) fit axis) (λ j l. ap (λ xs. slice_index xs j) is ∙ size-at base n j l) n k h
    ∙ sym (natural-with_cells axis config (text_at texts) (length texts) columns k some))

-- and where no cell has a span they are the natural sizes
pub plain_sizes : (axis : Axis) (config : Config) (texts : List (List Text)) (columns : ℕ) → config.spans ≡ [] → 0 < count_cells axis (length texts) columns
    → map (size_of_singles axis config (text_at texts) (count_cells axis (length texts) columns)) (range_with_len 0 (count axis (length texts) columns)) ≡ natural_sizes axis config texts columns
unfolding natural_sizes
plain_sizes axis config texts columns none some =
    let n : ℕ = count axis (length texts) columns in
    let base : ℕ → ℕ = size_of_singles axis config (text_at texts) (count_cells axis (length texts) columns) in
    map-below (λ k. size_of_singles axis config (text_at texts) (count_cells axis (length texts) columns) k) (λ k. natural_size axis config (text_at texts) (length texts) columns k) n (λ k h.
    sym (natural-with_cells axis config (text_at texts) (length texts) columns k some
    ∙ ap (λ spans. widened base (map (need_of axis config (text_at texts) n) spans) n k) none
    ∙ widened-stays base [] (λ i d l. absurd (omega (arith, l))) n k))

-- ---- at its natural heights a table shows each line of its texts

-- a cell at least as high as its top padding and its lines
high_enough : (style : Style) (text : Text) (h : ℕ) → style.padding.top.size + length (shown style.formatting text) ≤ h → cell_shows_all style text h ≡ true
high_enough style text h high =
    let enough : nat_le (length (shown style.formatting text)) (h - style.padding.top.size) ≡ true = grind (arith, nat_tests, high) in
    sym (cell_shows_all-by_count style text h) ∙ enough

module _ (config : Config) (texts : List (List Text)) (columns : ℕ) (color : Position → Option Color) (fit : spans_fit config.spans (length texts) columns ≡ true) where
  abbrev natural_table_of : Table
  natural_table_of = natural_table config texts columns color

  shown_single : (r c : ℕ) → r < length texts → c < columns → find (in_span r c) config.spans ≡ None → cell_shows_all (style_at config (at r c)) (text_at texts (at r c)) (rect_height natural_table_of (at r c)) ≡ true
  unfolding style_at rect_rows
  shown_single r c h k none =
      let one : size_of config.spans (at r c) ≡ span_size 1 1 = size-single (length texts) columns config.spans r c (all_fits config texts columns color fit) none in
      let one_row : rect_rows config.spans (at r c) ≡ 1 = ap (λ (z : SpanSize). z.rows) one in
      let single : is_single config.spans (at r c) ≡ true = rw none refl in
      high_enough (style_at config (at r c)) (text_at texts (at r c)) (rect_height natural_table_of (at r c))
      (omega (arith, rect_height-one_row natural_table_of (at r c) one_row h, height-at config texts columns color r h, single_below config texts columns color Rows r c k single))

  shown_corner : (s : Span) → Among config.spans s → size_of config.spans (corner s) ≡ s.1 → cell_shows_all (style_at config (corner s)) (text_at texts (corner s)) (rect_height natural_table_of (corner s)) ≡ true
  unfolding style_at
  shown_corner s m one =
      high_enough (style_at config (corner s)) (text_at texts (corner s)) (rect_height natural_table_of (corner s))
      (let high = high_span config texts columns color fit s m one in omega (arith, high))

  each_shown : (r c : ℕ) → r < length texts → c < columns → owner_shows_all natural_table_of (at r c) ≡ true
  unfolding owner_shows_all owner
  each_shown r c h k =
      elim (find_cases (in_span r c) config.spans) [
        | inl none ↦ or_right (not _) _ (shown_single r c h k none)
        | inr some ↦
            let s : Span = some.0 in
            elim (cases_Bool (is_at (corner s) r c)) [
              | inl own ↦
                  let same : corner s ≡ at r c = is_at-same (corner s) (at r c) own in
                  let one : size_of config.spans (at r c) ≡ s.1 = size-corner (length texts) columns config.spans s r c (all_fits config texts columns color fit) some.1 same in
                  or_right (not _) _
                  (subst (λ p. cell_shows_all (style_at config p) (text_at texts p) (rect_height natural_table_of p) ≡ true) same
                  (shown_corner s some.3 (subst (λ p. size_of config.spans p ≡ s.1) (sym same) one)))
              | inr other ↦ rw (some.1, other) refl
            ]
      ]

  -- whatever the widths are
  widths_do_nothing : (width : ℕ → ℕ) (p : Position) → owner_shows_all (table_of_widths config texts columns width color) p ≡ owner_shows_all natural_table_of p
  unfolding owner_shows_all rect_height rect_marks
  widths_do_nothing width p = refl

  pub each_shown-at : (width : ℕ → ℕ) (r c : ℕ) → r < length texts → c < columns → owner_shows_all (table_of_widths config texts columns width color) (at r c) ≡ true
  each_shown-at width r c h k = widths_do_nothing width (at r c) ∙ each_shown r c h k

misfit_cases : (o : Option Misfit) → (o ≡ None) ⊎ ((m : Misfit) × (o ≡ Some m))
misfit_cases None = inl refl
misfit_cases (Some m) = inr (m, refl)

pub natural_heights_show_all : NaturalHeightsShowAll
natural_heights_show_all config texts columns width color =
    let t : Table = table_of_widths config texts columns width color in
    elim (cases_Bool (is_empty t)) [
      | inl y ↦ rw (unshown-empty t y, misfit-empty t y) refl
      | inr n ↦ elim (misfit_cases (misfit_of t)) [
        | inr some ↦ rw some.1 (unshown_of-misfit t some.0 n some.1)
        | inl none ↦
            let rows : 0 < t.rows = grind (arith, nat_tests, n) in
            let some_columns : 0 < t.columns = grind (arith, nat_tests, n) in
            let fit = (fits t none rows some_columns).spans in
            let all = none_failed (owner_shows_all t) t.rows t.columns (each_shown-at config texts columns color fit width) in
            rw none (unshown_of-cell t n none ∙ ap (λ (cell : Option Position). misfit_or_cell None cell) all)
      ]
    ]

-- ---- totals at natural sizes: where they fit, so do all shown cells

module _ (config : Config) (texts : List (List Text)) (columns : ℕ) (color : Position → Option Color) where
  abbrev measured : Table
  measured = natural_table config texts columns color

  module _ (fit : spans_fit config.spans (length texts) columns ≡ true) where
    corner-sized : (p : Position) → IsCorner config.spans p → totals_fit measured ≡ true → p.row < length texts → p.col < columns → is_sized config (text_at texts) p ≡ true
    corner-sized p f totals h l =
        let s : Span = f.span in
        let one : size_of config.spans (corner s) ≡ s.1 = subst (λ q. size_of config.spans q ≡ s.1) (sym f.is) (size-corner (length texts) columns config.spans s p.row p.col (all_fits config texts columns color fit) f.found f.is) in
        let room = rect_inside config.spans (length texts) columns (corner s) fit (omega (arith, h, ap (λ (q : Position). q.row) f.is)) (omega (arith, l, ap (λ (q : Position). q.col) f.is)) in
        subst (λ q. is_sized config (text_at texts) q ≡ true) f.is
        (sized-from config (text_at texts) (corner s)
        (omega (arith, wide_span config texts columns color fit s f.among one, rect_width_fits measured (corner s) totals room))
        (omega (arith, high_span config texts columns color fit s f.among one, rect_height_fits measured (corner s) totals)))

    single-sized : (r c : ℕ) → is_single config.spans (at r c) ≡ true → totals_fit measured ≡ true → r < length texts → c < columns → is_sized config (text_at texts) (at r c) ≡ true
    single-sized r c single totals h l =
        sized-from config (text_at texts) (at r c)
        (omega (arith, single_below config texts columns color Columns c r h single, width-at config texts columns color c l, widths_fit measured totals c l))
        (omega (arith, single_below config texts columns color Rows r c l single, height-at config texts columns color r h, heights_fit measured totals r h))

    pub totals-cells : totals_fit measured ≡ true → cells_fit config (text_at texts) (length texts) columns ≡ true
    totals-cells totals =
        cells-from config (text_at texts) (length texts) columns (λ r c h l shown.
        elim (shown-cases config.spans (at r c) shown) [
          | inl single ↦ single-sized r c single totals h l
          | inr f ↦ corner-sized (at r c) f totals h l
        ])

    pub cells-past : cells_fit config (text_at texts) (length texts) columns ≡ false → totals_fit measured ≡ false
    cells-past past =
        elim (cases_Bool (totals_fit measured)) [
          | inl totals ↦ absurd (false≢true (sym past ∙ totals-cells totals))
          | inr n ↦ n
        ]

-- ---- the size of a column or a row without spans

-- ---- the size of a column or a row without spans is no less than each of its cells

module _ (axis : Axis) (config : Config) (text : Position → Text) (cells k : ℕ) where
  pub plain-covers : (j : ℕ) → j < cells → cell_size axis config text (cell_at axis k j) ≤ plain_size axis config text cells k
  unfolding plain_size
  plain-covers j h = omega (arith, greatest-reaches (λ i. cell_size axis config text (cell_at axis k i)) 0 cells j (omega arith) (omega (arith, h)))

-- without spans it is the natural size, and so it is where there are no cells
module _ (axis : Axis) (config : Config) (text : Position → Text) (rows columns k : ℕ) where
  pub plain-natural : config.spans ≡ [] → 0 < count_cells axis rows columns → plain_size axis config text (count_cells axis rows columns) k ≡ natural_size axis config text rows columns k
  unfolding plain_size
  plain-natural none some =
      omega (arith, greatest-reaches (λ i. cell_size axis config text (cell_at axis k i)) 0 (count_cells axis rows columns) 0 (omega arith) (omega (arith, some)), plain_tables_are_as_they_were axis config text rows columns k none some)

  empty-is : plain_size axis config text 0 k ≡ paddings axis config (cell_at axis k 0)
  unfolding plain_size
  empty-is = omega arith

  pub empty-natural : count_cells axis rows columns ≡ 0 → plain_size axis config text (count_cells axis rows columns) k ≡ natural_size axis config text rows columns k
  empty-natural none = ap (λ n. plain_size axis config text n k) none ∙ empty-is ∙ sym (natural-without_cells axis config text rows columns k none)

-- so are the lists of a table without cells
module _ (config : Config) (texts : List (List Text)) (columns : ℕ) (none : ((length texts == 0) || (columns == 0)) ≡ true) where
  pub empty-sizes : (axis : Axis) → map (plain_size axis config (text_at texts) (count_cells axis (length texts) columns)) (range_with_len 0 (count axis (length texts) columns)) ≡ natural_sizes axis config texts columns
  unfolding natural_sizes
  empty-sizes Columns =
      map-below (plain_size Columns config (text_at texts) (length texts)) (natural_size Columns config (text_at texts) (length texts) columns) columns
      (λ k h. empty-natural Columns config (text_at texts) (length texts) columns k (let z : length texts ≡ 0 = grind (arith, nat_tests, none, h) in z))
  empty-sizes Rows =
      map-below (plain_size Rows config (text_at texts) columns) (natural_size Rows config (text_at texts) (length texts) columns) (length texts)
      (λ k h. empty-natural Rows config (text_at texts) (length texts) columns k (let z : columns ≡ 0 = grind (arith, nat_tests, none, h) in z))

  -- and all cells of one without cells fit
  pub empty-fits : cells_fit config (text_at texts) (length texts) columns ≡ true
  empty-fits = cells-from config (text_at texts) (length texts) columns (λ r c h l shown. absurd (no_cells r c h l))
    where
      no_cells : (r c : ℕ) → r < length texts → c < columns → ⊥
      no_cells r c h l = grind (arith, nat_tests, none, h, l)

-- ---- natural widths without spans

pub no-spans : (spans : List Span) → (length spans == 0) ≡ true → spans ≡ []
no-spans [] h = refl
no-spans (s ∷ spans) h = let none : length (s ∷ spans) ≡ 0 = grind (arith, nat_tests) in absurd (omega (arith, none))

-- where no span is kept they are the natural ones, and so they are where there are no cells
module _ (config : Config) (rows columns : ℕ) where
  pub plain-widths : config.spans ≡ [] → HasPlainWidths config rows columns
  plain-widths none text k h =
      elim (cases_lt 0 rows) [
        | inl some ↦ plain-natural Columns config text rows columns k none some
        | inr past ↦ empty-natural Columns config text rows columns k (omega (arith, past))
      ]

  pub empty-widths : ((rows == 0) || (columns == 0)) ≡ true → HasPlainWidths config rows columns
  empty-widths empty text k h = empty-natural Columns config text rows columns k (let none : rows ≡ 0 = grind (arith, nat_tests, empty, h) in none)

-- so are their lists
pub plain-naturals : (config : Config) (texts : List (List Text)) (columns : ℕ) → HasPlainWidths config (length texts) columns → map (plain_size Columns config (text_at texts) (length texts)) (range_with_len 0 columns) ≡ natural_sizes Columns config texts columns
unfolding natural_sizes
plain-naturals config texts columns plain =
    map-below (plain_size Columns config (text_at texts) (length texts)) (natural_size Columns config (text_at texts) (length texts) columns) columns (λ k h. plain (text_at texts) k h)

-- tables at natural sizes have room
pub ruleset room_of_naturals = (natural_tables_have_room, plain_tables_are_as_they_were, all-fit)
