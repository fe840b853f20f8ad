-- A table at the widths that it is widened to from those that are told, where it keeps spans.
use Rattle.std.proofs.Common.{◌≡◌, ℕ, ◌<◌, ◌==◌, ◌||◌, not, true, false, max, List, [], ◌∷◌, map, length, slice_index, slice_index_or, refl, sym, ap, ◌∙◌, arith, Option, None, subst, inl}
use Rattle.std.proofs.Common.{inr}
use Rattle.std.specs.List.{range_with_len}
use Rattle.std.proofs.lemmas.List.FromFn.{length-map-range_with_len}
use Rattle.std.proofs.lemmas.Bool.Decides.{nat_tests}
use Rattle.pg_layout.specs.declared.position.Position.{Position}
use Rattle.pg_layout.specs.Colors.{Color}
use Rattle.pg_layout.specs.Records.{text_at}
use Rattle.pg_layout.specs.Text.{Text}
use Rattle.pg_config.specs.Config.{Config}
use Rattle.pg_picture.specs.Fits.{spans_fit, totals_fit, misfit_of}
use Rattle.pg_table.specs.Inside.{with_room}
use Rattle.pg_table.specs.Natural.{cell_size, size_of_singles, need_of, natural_sizes, natural_table, widened, cells_fit}
use Rattle.pg_table.specs.Spanning.{keeps_spans, singles_width, width_for, widths_from, table_from}
use Rattle.pg_table.specs.declared.needs.Need.{Need}
use Rattle.pg_table.specs.declared.sizes.Axis.TheVariants.{Columns, Rows}
use Rattle.pg_table.proofs.ListedSizes.{size-at}
use Rattle.pg_table.proofs.FitFaults.{kept-parts}
use Rattle.pg_table.proofs.NaturalRoom.{needs_inside, map-below, widened_sizes}
use Rattle.pg_table.proofs.Widenings.{widened-base, sum-same}
use Rattle.std.proofs.lemmas.Bool.{cases_Bool}
use Rattle.pg_picture.specs.Sizes.{sized}
use Rattle.pg_picture.specs.Straight.{CellsFit, IsStraight}
use Rattle.pg_picture.specs.Table.{Table, is_empty}
use Rattle.pg_picture.proofs.FittingTables.{totals_fit-sized}
use Rattle.pg_table.specs.Even.{IsEven}
use Rattle.pg_table.specs.Printing.{fault_of}
use Rattle.pg_table.proofs.Faults.{fault-none}
use Rattle.pg_table.proofs.NaturalRoom as natural_room
use Rattle.pg_table.proofs.StraightTables as straight_tables
use Rattle.pg_table.proofs.StraightTables.{straight-of, even-of}
use Rattle.pg_table.proofs.ToldRooms as told_rooms
use Rattle.pg_table.proofs.ToldRooms.{HaveRoom, inside, single-below, corner-below}

-- ---- widths of cells without a span, raised to those that are told

module _ (told : List ℕ) (config : Config) (texts : List (List Text)) (columns : ℕ) (fit : spans_fit config.spans (length texts) columns ≡ true) where
  abbrev singles : ℕ → ℕ
  singles k = size_of_singles Columns config (text_at texts) (length texts) k

  abbrev needs : List Need
  needs = map (need_of Columns config (text_at texts) columns) config.spans

  singles-are : (k : ℕ) → singles_width config (length texts) columns (cell_size Columns config (text_at texts)) k ≡ singles k
  unfolding singles_width size_of_singles
  singles-are k = refl

  abbrev base : ℕ → ℕ
  base k = max (slice_index told k) (singles_width config (length texts) columns (cell_size Columns config (text_at texts)) k)

  width-is : (k : ℕ) → width_for config (length texts) columns (cell_size Columns config (text_at texts)) (slice_index told) k ≡ widened base needs columns k
  unfolding width_for
  width-is k = refl

  pub raised-widths : (s raised : List ℕ) → s ≡ map singles (range_with_len 0 columns) → length raised ≡ length s → ((k : ℕ) → k < length s → slice_index raised k ≡ max (slice_index told k) (slice_index s k))
      → with_room Columns config texts columns raised ≡ map (λ k. width_for config (length texts) columns (cell_size Columns config (text_at texts)) (slice_index told) k) (range_with_len 0 columns)
  unfolding with_room
  raised-widths s raised is same each =
      let long : length s ≡ columns = ap length is ∙ length-map-range_with_len singles 0 columns in
      let at_base : (j : ℕ) → j < columns → slice_index raised j ≡ base j =
      λ j l. omega (arith, each j (omega (arith, l, long)), ap (λ xs. slice_index xs j) is, size-at singles columns j l, singles-are j) in
      map-below (widened (slice_index raised) needs columns) (width_for config (length texts) columns (cell_size Columns config (text_at texts)) (slice_index told)) columns (λ k h.
      widened-base (slice_index raised) base needs columns (needs_inside config texts columns (λ p. None) fit Columns) at_base columns k h ∙ sym (width-is k))

-- the widths of a table that keeps spans
pub listed : (told : List ℕ) (config : Config) (texts : List (List Text)) (columns : ℕ) → keeps_spans config texts columns ≡ true → spans_fit config.spans (length texts) columns ≡ true
    → widths_from told config texts columns ≡ map (λ k. width_for config (length texts) columns (cell_size Columns config (text_at texts)) (slice_index told) k) (range_with_len 0 columns)
listed [] config texts columns kept fit =
    let empty = (kept-parts ((length texts == 0) || (columns == 0)) (not (length config.spans == 0)) kept).0 in
    let rows : 0 < length texts = grind (arith, nat_tests, empty) in
    let singles : List ℕ = map (size_of_singles Columns config (text_at texts) (length texts)) (range_with_len 0 columns) in
    sym (widened_sizes Columns config texts columns fit rows singles refl)
    ∙ raised-widths [] config texts columns fit singles singles refl refl (λ k h. omega arith)
listed (first ∷ told) config texts columns kept fit = rw kept refl

-- those of any other table are the natural ones, and so is the table
pub plain-widths : (told : List ℕ) (config : Config) (texts : List (List Text)) (columns : ℕ) → keeps_spans config texts columns ≡ false → widths_from told config texts columns ≡ natural_sizes Columns config texts columns
plain-widths [] config texts columns unkept = refl
plain-widths (first ∷ told) config texts columns unkept = rw unkept refl

pub plain-table : (told : List ℕ) (config : Config) (texts : List (List Text)) (columns : ℕ) (color : Position → Option Color) → keeps_spans config texts columns ≡ false → table_from told config texts columns color ≡ natural_table config texts columns color
plain-table told config texts columns color unkept =
    ap (λ (xs : List ℕ). record (natural_table config texts columns color) { width = λ k. slice_index_or xs k 0 }) (plain-widths told config texts columns unkept)

-- tables of the same parts
pub same-table : (told told' : List ℕ) (config config' : Config) (texts texts' : List (List Text)) (columns columns' : ℕ) (color color' : Position → Option Color)
    → told ≡ told' → config ≡ config' → texts ≡ texts' → columns ≡ columns' → color ≡ color' → table_from told config texts columns color ≡ table_from told' config' texts' columns' color'
same-table told told' config config' texts texts' columns columns' color color' a b d e f =
    ap (λ (ws : List ℕ). table_from ws config texts columns color) a ∙ ap (λ (k : Config). table_from told' k texts columns color) b
    ∙ ap (λ (ts : List (List Text)). table_from told' config' ts columns color) d ∙ ap (λ (n : ℕ). table_from told' config' texts' n color) e
    ∙ ap (λ (of : Position → Option Color). table_from told' config' texts' columns' of) f

-- ---- a table at these widths

module _ (told : List ℕ) (config : Config) (texts : List (List Text)) (columns : ℕ) (color : Position → Option Color) where
  abbrev table : Table
  table = table_from told config texts columns color

  pub listed-totals : (widths heights : List ℕ) → widths ≡ widths_from told config texts columns → heights ≡ natural_sizes Rows config texts columns
      → totals_fit (sized config (λ c. slice_index_or widths c 0) (λ r. slice_index_or heights r 0) (length texts) columns) ≡ totals_fit table
  listed-totals widths heights wide high =
      ap (λ (xs : List ℕ). totals_fit (sized config (λ c. slice_index_or xs c 0) (λ r. slice_index_or heights r 0) (length texts) columns)) wide
      ∙ ap (λ (xs : List ℕ). totals_fit (sized config table.width (λ r. slice_index_or xs r 0) (length texts) columns)) high
      ∙ totals_fit-sized table

  module _ (kept : keeps_spans config texts columns ≡ true) where
    abbrev wide : ℕ → ℕ
    wide k = width_for config (length texts) columns (cell_size Columns config (text_at texts)) (slice_index told) k

    pub some : is_empty table ≡ false
    some = (kept-parts ((length texts == 0) || (columns == 0)) (not (length config.spans == 0)) kept).0

    module _ (fit : spans_fit config.spans (length texts) columns ≡ true) where
      pub width-at : (k : ℕ) → k < columns → table.width k ≡ wide k
      width-at k h = ap (λ ws. slice_index_or ws k 0) (listed told config texts columns kept fit) ∙ size-at wide columns k h

      have : HaveRoom config (length texts) columns (cell_size Columns config (text_at texts)) table.width
      have = record {
        singles = λ r c h l single. omega (arith, width-at c l, single-below config (length texts) columns (cell_size Columns config (text_at texts)) (slice_index told) r c h single);
        corners = λ s m.
            omega (
              arith,
              corner-below config (length texts) columns (cell_size Columns config (text_at texts)) (slice_index told) fit s m,
              sum-same table.width wide s.0.col s.1.columns (λ k _ h. width-at k (omega (arith, h, (inside config (length texts) columns (cell_size Columns config (text_at texts)) (slice_index told) fit s m).columns_end))),
            );
      }

      kept-misfit-none : totals_fit table ≡ true → misfit_of table ≡ None
      kept-misfit-none totals = told_rooms.misfit-none config texts columns table.width color fit have totals

      kept-cells-past : cells_fit config (text_at texts) (length texts) columns ≡ false → totals_fit table ≡ false
      kept-cells-past past = told_rooms.cells-past config texts columns table.width color fit have past

      fits-all : totals_fit table ≡ true → CellsFit table
      fits-all totals = let fitting = told_rooms.fits config texts columns table.width color fit have totals in record { spans = fitting.spans; rooms = fitting.rooms }

    cells : fault_of table ≡ None → CellsFit table
    cells none = let facts = fault-none table some none in fits-all facts.0 facts.1

    kept-straight : fault_of table ≡ None → IsStraight table
    kept-straight none = straight-of table (λ _ _. cells none)

    kept-even : fault_of table ≡ None → IsEven table
    kept-even none = even-of table (λ _ _. cells none)

  -- ---- whether it keeps spans or not

  of-both : (P : Table → Type 0) → (keeps_spans config texts columns ≡ true → P table) → P (natural_table config texts columns color) → P table
  of-both P kept natural =
      elim (cases_Bool (keeps_spans config texts columns)) [
        | inl k ↦ kept k
        | inr unkept ↦ subst P (sym (plain-table told config texts columns color unkept)) natural
      ]

  module _ (fit : spans_fit config.spans (length texts) columns ≡ true) where
    pub misfit-none : totals_fit table ≡ true → misfit_of table ≡ None
    misfit-none = of-both (λ t. totals_fit t ≡ true → misfit_of t ≡ None) (λ kept. kept-misfit-none kept fit) (natural_room.misfit-none config texts columns color fit)

    pub cells-past : cells_fit config (text_at texts) (length texts) columns ≡ false → totals_fit table ≡ false
    cells-past past = of-both (λ t. totals_fit t ≡ false) (λ kept. kept-cells-past kept fit past) (natural_room.cells-past config texts columns color fit past)

  pub straight : fault_of table ≡ None → IsStraight table
  straight = of-both (λ t. fault_of t ≡ None → IsStraight t) kept-straight (straight_tables.straight config texts columns color)

  pub even : fault_of table ≡ None → IsEven table
  even = of-both (λ t. fault_of t ≡ None → IsEven t) kept-even (straight_tables.even config texts columns color)
