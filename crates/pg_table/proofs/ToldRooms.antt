-- Columns that are widened for their cells have room for them, and tables at such widths fit.
use Rattle.std.proofs.Common.{◌≡◌, ℕ, ◌+◌, ◌-◌, ◌<◌, ◌≤◌, true, cond, max, List, map, sum_by, count_by, All, refl, arith, inl, inr, false, not, length, find, sym, ap, ◌∙◌, subst, Option, None}
use Rattle.std.specs.List.{range_with_len, list_all}
use Rattle.std.proofs.lemmas.Bool.{cases_Bool, and_parts, false≢true, or_right}
use Rattle.pg_layout.specs.declared.position.Position.{Position}
use Rattle.pg_layout.specs.Position.{at, is_at}
use Rattle.pg_layout.proofs.TextLines.{greatest-reaches}
use Rattle.pg_config.specs.Config.{Config, has_vertical}
use Rattle.pg_config.specs.Spans.{Span, corner, in_span, owner, size_of, span_size, rect_rows, rect_columns}
use Rattle.pg_picture.specs.Fits.{span_fits, all_apart, spans_fit, totals_fit, cell_fits, owner_fits, misfit_of, TableFits}
use Rattle.pg_picture.proofs.OwnersOfPlaces.{Among, find_cases}
use Rattle.pg_table.specs.Natural.{is_single, cell_size, is_sized, natural_table, cells_fit, lacking, widened}
use Rattle.pg_table.specs.Spanning.{singles_width, room_needed, width_for}
use Rattle.pg_table.specs.declared.needs.Need.{Need}
use Rattle.pg_table.proofs.Widenings.{cells_have_room, no_column_shrinks, enough_stays, sum-le}
use Rattle.pg_table.proofs.FittedColumns.{greatest-below}
use Rattle.pg_table.proofs.NaturalRoom.{Inside, inside-of, has_room, height-at, single_below, all_fits, high_span}
use Rattle.pg_table.proofs.ShownCells.{fits-among, all-among, among-all, size-single, size-corner, IsCorner, shown-cases, sized-from, cells-from}
use Rattle.pg_layout.specs.Colors.{Color}
use Rattle.pg_layout.specs.Records.{text_at}
use Rattle.pg_layout.specs.Text.{Text}
use Rattle.pg_config.specs.declared.spans.SpanSize.{SpanSize}
use Rattle.pg_picture.specs.Pieces.{style_at}
use Rattle.pg_picture.specs.Table.{Table, rect_width, rect_height, rect_marks}
use Rattle.pg_picture.proofs.FittingTables.{widths_fit, heights_fit, rect_inside, rect_width_fits, rect_height_fits, rect_height-one_row}
use Rattle.pg_picture.proofs.Owners.{is_at-same}
use Rattle.pg_picture.proofs.FirstPlaces.{fitting_tables_have_none}
use Rattle.pg_table.specs.Laws.{table_of_widths}
use Rattle.pg_table.specs.declared.sizes.Axis.TheVariants.{Columns, Rows}

-- ---- columns that are widened for cells have room for each of them, and stay where they had it

-- the column lines in the rectangle of a cell
abbrev pub lines_in : Config → ℕ → Span → ℕ
lines_in config columns s = count_by (λ c. has_vertical config c columns) (range_with_len (s.0.col + 1) (s.1.columns - 1))

module _ (config : Config) (rows columns : ℕ) (size : Position → ℕ) (told : ℕ → ℕ) where
  abbrev pub width : ℕ → ℕ
  width k = width_for config rows columns size told k

  abbrev base : ℕ → ℕ
  base c = max (told c) (singles_width config rows columns size c)

  abbrev pub needs : List Need
  needs = map (room_needed config rows columns size) config.spans

  single-is : (p : Position) → is_single config.spans p ≡ true → cond (is_single config.spans p) (size p) 0 ≡ size p
  single-is p single = rw single refl

  single-reaches : (r c : ℕ) → r < rows → is_single config.spans (at r c) ≡ true → size (at r c) ≤ singles_width config rows columns size c
  unfolding singles_width
  single-reaches r c h single =
      omega (arith, greatest-reaches (λ i. cond (is_single config.spans (at i c)) (size (at i c)) 0) 0 rows r (omega arith) (omega (arith, h)), single-is (at r c) single)

  base-below : (k : ℕ) → base k ≤ width k
  unfolding width_for
  base-below k = no_column_shrinks base needs columns k

  pub told-below : (k : ℕ) → told k ≤ width k
  told-below k = omega (arith, base-below k)

  pub single-below : (r c : ℕ) → r < rows → is_single config.spans (at r c) ≡ true → size (at r c) ≤ width c
  single-below r c h single = omega (arith, base-below c, single-reaches r c h single)

  module _ (fit : spans_fit config.spans rows columns ≡ true) where
    pub all-fit : list_all (span_fits rows columns) config.spans ≡ true
    unfolding spans_fit
    all-fit = (and_parts (list_all (span_fits rows columns) config.spans) (all_apart config.spans) fit).0

    pub inside : (s : Span) → Among config.spans s → Inside rows columns s
    inside s m = inside-of rows columns s (fits-among rows columns config.spans all-fit s m)

    pub needs-some : All (λ (need : Need). 0 < need.count) needs
    needs-some = all-among (λ (need : Need). 0 < need.count) (room_needed config rows columns size) config.spans (λ s m. (inside s m).some_columns)

    needs-end : All (λ (need : Need). need.count ≤ columns) needs
    needs-end = all-among (λ (need : Need). need.count ≤ columns) (room_needed config rows columns size) config.spans (λ s m. omega (arith, (inside s m).columns_end))

    pub needs-inside : All (λ (need : Need). need.first + need.count ≤ columns) needs
    needs-inside = all-among (λ (need : Need). need.first + need.count ≤ columns) (room_needed config rows columns size) config.spans (λ s m. (inside s m).columns_end)

    pub corner-below : (s : Span) → Among config.spans s → size (corner s) ≤ sum_by width (range_with_len s.0.col s.1.columns) + lines_in config columns s
    unfolding width_for
    corner-below s m =
        let room : size (corner s) - lines_in config columns s ≤ sum_by (widened base needs columns) (range_with_len s.0.col s.1.columns) =
        among-all (λ (x : Need). x.size ≤ sum_by (widened base needs columns) (range_with_len x.first x.count)) (room_needed config rows columns size) config.spans
        (cells_have_room base needs columns needs-some needs-end) s m in
        omega (arith, room)

    -- columns that have room already stay
    module _ (singles : (r c : ℕ) → r < rows → c < columns → is_single config.spans (at r c) ≡ true → size (at r c) ≤ told c)
        (corners : (s : Span) → Among config.spans s → size (corner s) ≤ sum_by told (range_with_len s.0.col s.1.columns) + lines_in config columns s) where
      singles-low : (k : ℕ) → k < columns → singles_width config rows columns size k ≤ told k
      unfolding singles_width
      singles-low k h =
          greatest-below (λ r. cond (is_single config.spans (at r k)) (size (at r k)) 0) 0 rows (told k) (λ r _ l.
          elim (cases_Bool (is_single config.spans (at r k))) [
            | inl single ↦ omega (arith, single-is (at r k) single, singles r k (omega (arith, l)) h single)
            | inr other ↦ rw other (omega arith)
          ])

      enough-at : (s : Span) → Among config.spans s → lacking base (room_needed config rows columns size s) ≡ 0
      unfolding lacking
      enough-at s m =
          omega (arith, corners s m, sum-le told base s.0.col s.1.columns (λ k _ _. omega arith))

      pub stays : (k : ℕ) → k < columns → width k ≡ told k
      unfolding width_for
      stays k h =
          omega (arith, enough_stays base needs (all-among (λ (need : Need). lacking base need ≡ 0) (room_needed config rows columns size) config.spans enough-at) columns k, singles-low k h)

-- ---- a table at widths that have room for its cells, and at its natural heights, fits where its totals do

-- columns of these widths have room for all cells of so many terminal columns
pub record HaveRoom (config : Config) (rows columns : ℕ) (size : Position → ℕ) (width : ℕ → ℕ) : Type 0 where
  pub singles : (r c : ℕ) → r < rows → c < columns → is_single config.spans (at r c) ≡ true → size (at r c) ≤ width c
  pub corners : (s : Span) → Among config.spans s → size (corner s) ≤ sum_by width (range_with_len s.0.col s.1.columns) + lines_in config columns s

module _ (config : Config) (texts : List (List Text)) (columns : ℕ) (width : ℕ → ℕ) (color : Position → Option Color) where
  abbrev table : Table
  table = table_of_widths config texts columns width color

  abbrev natural : Table
  natural = natural_table config texts columns color

  heights-same : (p : Position) → rect_height table p ≡ rect_height natural p
  unfolding rect_height rect_marks
  heights-same p = refl

  width-single : (r c : ℕ) → rect_columns config.spans (at r c) ≡ 1 → rect_width table (at r c) ≡ width c
  unfolding rect_width
  width-single r c one = rw one (omega arith)

  width-corner : (s : Span) → rect_columns config.spans (corner s) ≡ s.1.columns → rect_width table (corner s) ≡ sum_by width (range_with_len s.0.col s.1.columns) + lines_in config columns s
  unfolding rect_width
  width-corner s taken = rw taken refl

  columns-of : (p : Position) (z : SpanSize) → size_of config.spans p ≡ z → rect_columns config.spans p ≡ z.columns
  unfolding rect_columns
  columns-of p z one = ap (λ (z : SpanSize). z.columns) one

  rows-of : (p : Position) (z : SpanSize) → size_of config.spans p ≡ z → rect_rows config.spans p ≡ z.rows
  unfolding rect_rows
  rows-of p z one = ap (λ (z : SpanSize). z.rows) one

  module _ (fit : spans_fit config.spans (length texts) columns ≡ true) (have : HaveRoom config (length texts) columns (cell_size Columns config (text_at texts)) width) where
    room_single : (r c : ℕ) → r < length texts → c < columns → find (in_span r c) config.spans ≡ None → cell_fits (style_at config (at r c)) (text_at texts (at r c)) (rect_width table (at r c)) (rect_height table (at r c)) ≡ true
    unfolding style_at
    room_single r c h k none =
        let one : size_of config.spans (at r c) ≡ span_size 1 1 = size-single (length texts) columns config.spans r c (all_fits config texts columns color fit) none in
        let single : is_single config.spans (at r c) ≡ true = rw none refl in
        has_room (style_at config (at r c)) (text_at texts (at r c)) (rect_width table (at r c)) (rect_height table (at r c))
        (omega (arith, width-single r c (columns-of (at r c) (span_size 1 1) one), have.singles r c h k single))
        (omega (arith, heights-same (at r c), rect_height-one_row natural (at r c) (rows-of (at r c) (span_size 1 1) one) h, height-at config texts columns color r h, single_below config texts columns color Rows r c k single))

    room_corner : (s : Span) → Among config.spans s → size_of config.spans (corner s) ≡ s.1 → cell_fits (style_at config (corner s)) (text_at texts (corner s)) (rect_width table (corner s)) (rect_height table (corner s)) ≡ true
    unfolding style_at
    room_corner s m one =
        has_room (style_at config (corner s)) (text_at texts (corner s)) (rect_width table (corner s)) (rect_height table (corner s))
        (omega (arith, width-corner s (columns-of (corner s) s.1 one), have.corners s m))
        (omega (arith, heights-same (corner s), high_span config texts columns color fit s m one))

    room : (r c : ℕ) → r < length texts → c < columns → owner_fits table (at r c) ≡ true
    unfolding owner_fits owner
    room r c h k =
        elim (find_cases (in_span r c) config.spans) [
          | inl none ↦ or_right (not _) _ (room_single r c h k none)
          | inr some ↦
              let s : Span = some.0 in
              elim (cases_Bool (is_at (corner s) r c)) [
                | inl own ↦
                    let same : corner s ≡ at r c = is_at-same (corner s) (at r c) own in
                    let one : size_of config.spans (at r c) ≡ s.1 = size-corner (length texts) columns config.spans s r c (all_fits config texts columns color fit) some.1 same in
                    or_right (not _) _
                    (subst (λ p. cell_fits (style_at config p) (text_at texts p) (rect_width table p) (rect_height table p) ≡ true) same
                    (room_corner s some.3 (subst (λ p. size_of config.spans p ≡ s.1) (sym same) one)))
                | inr other ↦ rw (some.1, other) refl
              ]
        ]

    pub fits : totals_fit table ≡ true → TableFits table
    fits totals = record { spans = fit; totals = totals; rooms = λ r c h k. room r c h k }

    pub misfit-none : totals_fit table ≡ true → misfit_of table ≡ None
    misfit-none totals = fitting_tables_have_none table (fits totals)

    -- where the totals fit, so does each shown cell
    corner-sized : (p : Position) → IsCorner config.spans p → totals_fit table ≡ true → p.row < length texts → p.col < columns → is_sized config (text_at texts) p ≡ true
    corner-sized p f totals h l =
        let s : Span = f.span in
        let one : size_of config.spans (corner s) ≡ s.1 = subst (λ q. size_of config.spans q ≡ s.1) (sym f.is) (size-corner (length texts) columns config.spans s p.row p.col (all_fits config texts columns color fit) f.found f.is) in
        let inside = rect_inside config.spans (length texts) columns (corner s) fit (omega (arith, h, ap (λ (q : Position). q.row) f.is)) (omega (arith, l, ap (λ (q : Position). q.col) f.is)) in
        subst (λ q. is_sized config (text_at texts) q ≡ true) f.is
        (sized-from config (text_at texts) (corner s)
        (omega (arith, width-corner s (columns-of (corner s) s.1 one), have.corners s f.among, rect_width_fits table (corner s) totals inside))
        (omega (arith, heights-same (corner s), high_span config texts columns color fit s f.among one, rect_height_fits table (corner s) totals)))

    single-sized : (r c : ℕ) → is_single config.spans (at r c) ≡ true → totals_fit table ≡ true → r < length texts → c < columns → is_sized config (text_at texts) (at r c) ≡ true
    single-sized r c single totals h l =
        sized-from config (text_at texts) (at r c)
        (omega (arith, have.singles r c h l single, widths_fit table totals c l))
        (omega (arith, single_below config texts columns color Rows r c l single, height-at config texts columns color r h, heights_fit table totals r h))

    totals-cells : totals_fit table ≡ true → cells_fit config (text_at texts) (length texts) columns ≡ true
    totals-cells totals =
        cells-from config (text_at texts) (length texts) columns (λ r c h l shown.
        elim (shown-cases config.spans (at r c) shown) [
          | inl single ↦ single-sized r c single totals h l
          | inr f ↦ corner-sized (at r c) f totals h l
        ])

    pub cells-past : cells_fit config (text_at texts) (length texts) columns ≡ false → totals_fit table ≡ false
    cells-past past =
        elim (cases_Bool (totals_fit table)) [
          | inl totals ↦ absurd (false≢true (sym past ∙ totals-cells totals))
          | inr n ↦ n
        ]
