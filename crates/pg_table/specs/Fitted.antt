-- A table within a width: columns narrowed to it, and the texts that are too wide for them wrapped or cut.
use Rattle.std.specs.Prelude.{ℕ, Bool, ◌+◌, ◌-◌, ◌^◌, ◌<◌, ◌≤◌, max, nat_lt, not, ◌&&◌, ◌||◌, ◌==◌, List, map, length, sum_by, slice_index, Option, Some, None, if◌then◌else◌, slice_index_or}
use Rattle.std.specs.Borrow.{Bor}
use Rattle.std.specs.List.{range_with_len}
use Rattle.pg_layout.specs.declared.position.Position.{Position}
use Rattle.pg_layout.specs.Colors.{Color}
use Rattle.pg_layout.specs.Position.{at}
use Rattle.pg_layout.specs.Records.{text_at, columns_of}
use Rattle.pg_layout.specs.ColorsMap.{color_at}
use Rattle.pg_layout.specs.Text.{Text, greatest}
use Rattle.pg_config.specs.Config.{Config, get_formatting}
use Rattle.pg_fit.specs.declared.narrowing.ColumnRange.{ColumnRange}
use Rattle.pg_fit.specs.Narrowing.{limited, narrowed}
use Rattle.pg_fit.specs.Overlaid.{overlaid}
use Rattle.pg_picture.specs.Fits.{spans_fit}
use Rattle.pg_picture.specs.Table.{Table as PrintedTable, full_width, is_empty}
use Rattle.pg_table.specs.Natural.{paddings, natural_sizes, all_fit}
use Rattle.pg_layout.specs.declared.dimension.ConstantDimension.{ConstantDimension}
use Rattle.pg_table.specs.declared.fitted.filling.FilledTable.{FilledTable}
unfoldable pub use Rattle.pg_table.specs.Overflowing.{fitted_text}
pub use Rattle.pg_table.specs.Overflowing.{overflowed, least_overflowed, least_text_width, HasPlainTail, beside_columns, limit_of}
use Rattle.pg_table.specs.Printing.{Parts, sizes_fault}
use Rattle.pg_table.specs.Spanning.{keeps_spans, widths_from, table_from, spanned_least_width, spanned_widths, spanned_texts}
use Rattle.pg_table.specs.declared.fault.TableFault.{TableFault}
use Rattle.pg_table.specs.declared.fault.TableFault.TheVariants.{Spans, Totals}
use Rattle.pg_table.specs.declared.fitted.FittedTable.{FittedTable}
use Rattle.pg_table.specs.declared.overflow.Overflow.{Overflow}
use Rattle.pg_table.specs.declared.sizes.Axis.{Axis}
use Rattle.pg_table.specs.declared.sizes.Axis.TheVariants.{Columns, Rows}

-- ---- columns of cells without a span

-- the least width of column k of so many cells: that of its widest cell, made as narrow as it can be, and where it has none the paddings alone
unfoldable pub least_column_width : Overflow → Config → (Position → Text) → ℕ → ℕ → ℕ
least_column_width how config text rows k =
    max (paddings Columns config (at 0 k)) (greatest (map (λ r. paddings Columns config (at r k) + least_text_width how config text (at r k)) (range_with_len 0 rows)))

module _ (how : Overflow) (total : ℕ) (limits : List ℕ) (config : Config) (texts : List (List Text)) (columns : ℕ) where
  -- how narrow column k may be, and its natural width, lowered to its limit
  abbrev pub column_range : ℕ → ColumnRange
  column_range k =
      limited (limit_of limits k)
      (record { least = least_column_width how config (text_at texts) (length texts) k; natural = slice_index (natural_sizes Columns config texts columns) k })

  abbrev pub column_ranges : List ColumnRange
  column_ranges = map column_range (range_with_len 0 columns)

  -- the widths of the columns
  unfoldable pub column_widths : List ℕ
  column_widths = narrowed (total - beside_columns config columns) column_ranges

  -- the columns that a cell leaves to its text
  abbrev pub text_room : Position → ℕ
  text_room p = slice_index column_widths p.col - paddings Columns config p

  -- the text of a cell
  abbrev pub fitted_at : Position → Text
  fitted_at p = fitted_text how (get_formatting config p) (text_room p) (text_at texts p)

  -- all texts
  unfoldable pub column_texts : List (List Text)
  column_texts = map (λ r. map (λ c. fitted_at (at r c)) (range_with_len 0 columns)) (range_with_len 0 (length texts))

-- ---- texts and columns of a table

-- how narrow column k may be
unfoldable pub least_width_at : Overflow → Config → List (List Text) → ℕ → ℕ → ℕ
least_width_at how config texts columns k =
    if keeps_spans config texts columns then spanned_least_width how config texts columns k
    else least_column_width how config (text_at texts) (length texts) k

-- the width of a line whose columns are as narrow as they can be
unfoldable pub least_full_width : Overflow → Config → List (List Text) → ℕ → ℕ
least_full_width how config texts columns = sum_by (least_width_at how config texts columns) (range_with_len 0 columns) + beside_columns config columns

module _ (how : Overflow) (total : ℕ) (limits : List ℕ) (config : Config) (texts : List (List Text)) (columns : ℕ) where
  -- the texts, fitted to all columns of their cells where a span is kept, and else to their column
  unfoldable pub fitted_texts : List (List Text)
  fitted_texts = if keeps_spans config texts columns
      then spanned_texts how (spanned_widths how total limits config texts columns) config texts columns
      else column_texts how total limits config texts columns

  -- the table, at the natural sizes of these texts; where a span is kept its columns are as wide as they were narrowed to
  abbrev pub fitted_table : (Position → Option Color) → PrintedTable
  fitted_table color = table_from (spanned_widths how total limits config texts columns) config fitted_texts columns color

-- nothing is too wide: each column at its natural width is within its limit, and a line of them within the total
pub record IsNarrow (total : ℕ) (limits : List ℕ) (config : Config) (texts : List (List Text)) (columns : ℕ) : Type 0 where
  pub each : (k : ℕ) → k < columns → slice_index (natural_sizes Columns config texts columns) k ≤ limit_of limits k
  pub line : sum_by (λ k. slice_index (natural_sizes Columns config texts columns) k) (range_with_len 0 columns) + beside_columns config columns ≤ total

-- why a table with cells isn't fitted: one that keeps a span where its natural sizes aren't told; any other one where its columns can't be
-- counted, or the natural width of one is no number of 64 bits
unfoldable pub fit_fault : Config → List (List Text) → ℕ → Option TableFault
fit_fault config texts columns =
    if (length texts == 0) || (columns == 0) then None
    else if not (length config.spans == 0) then sizes_fault config texts columns
    else if not (nat_lt columns (2 ^ 64 - 1) && all_fit (natural_sizes Columns config texts columns)) then Some Totals
    else None

-- why the least width of a line isn't told: its spans don't fit, or its columns can't be counted, or it is no number of 64 bits
unfoldable pub least_fault : Overflow → Config → List (List Text) → ℕ → Option TableFault
least_fault how config texts columns =
    if keeps_spans config texts columns && not (spans_fit config.spans (length texts) columns) then Some Spans
    else if not (nat_lt columns (2 ^ 64 - 1) && nat_lt (least_full_width how config texts columns) (2 ^ 64)) then Some Totals
    else None

-- ---- tables

-- what a fitted table draws, by what its records and its colours tell
abbrev pub printed_fitted_table : {R C B A : Type 0} → (R → List (List Text)) → (R → ℕ) → (C → Position → Option Color) → FittedTable R C B A → PrintedTable
printed_fitted_table texts columns color t = table_from t.widths.items t.config.now (overlaid texts columns t.records) (columns t.records.records) (color t.colors.now)

-- its natural sizes
abbrev pub sizes_fitted : {R C B A : Type 0} → (R → List (List Text)) → (R → ℕ) → Axis → FittedTable R C B A → List ℕ
sizes_fitted texts columns Columns t = widths_from t.widths.items t.config.now (overlaid texts columns t.records) (columns t.records.records)
sizes_fitted texts columns Rows t = natural_sizes Rows t.config.now (overlaid texts columns t.records) (columns t.records.records)

-- and why they aren't told
abbrev pub sizes_fault_fitted : {R C B A : Type 0} → (R → List (List Text)) → (R → ℕ) → FittedTable R C B A → Option TableFault
sizes_fault_fitted texts columns t = sizes_fault t.config.now (overlaid texts columns t.records) (columns t.records.records)

-- the table of lent parts, fitted
abbrev pub fitted_of : {R C : Type 0} → Overflow → ℕ → List ℕ → (R → List (List Text)) → (R → ℕ) → (C → Position → Option Color) → R × Config × C × List ℕ → PrintedTable
fitted_of how total limits texts columns color (records, config, colors, told) = fitted_table how total limits config (texts records) (columns records) (color colors)

-- why it isn't fitted, and the width of a line whose columns are as narrow as they can be
abbrev pub fit_fault_of : {R C : Type 0} → (R → List (List Text)) → (R → ℕ) → R × Config × C × List ℕ → Option TableFault
fit_fault_of texts columns (records, config, colors, told) = fit_fault config (texts records) (columns records)

-- whether nothing is too wide
abbrev pub IsNarrowOf : {R C : Type 0} → ℕ → List ℕ → (R → List (List Text)) → (R → ℕ) → R × Config × C × List ℕ → Type 0
IsNarrowOf total limits texts columns (records, config, colors, told) = IsNarrow total limits config (texts records) (columns records)

abbrev pub least_at : {R C : Type 0} → Overflow → (R → List (List Text)) → (R → ℕ) → R × Config × C × List ℕ → ℕ → ℕ
least_at how texts columns (records, config, colors, told) k = least_width_at how config (texts records) (columns records) k

abbrev pub least_width_of : {R C : Type 0} → Overflow → (R → List (List Text)) → (R → ℕ) → R × Config × C × List ℕ → ℕ
least_width_of how texts columns (records, config, colors, told) = least_full_width how config (texts records) (columns records)

abbrev pub least_fault_of : {R C : Type 0} → Overflow → (R → List (List Text)) → (R → ℕ) → R × Config × C × List ℕ → Option TableFault
least_fault_of how texts columns (records, config, colors, told) = least_fault how config (texts records) (columns records)

-- the same of a table with rows of its own, by the texts of its cells; and what it draws, fitted, over these rows
abbrev pub fitted_rows : {T : Type 0} → Overflow → ℕ → List ℕ → (T → Text) → Parts T → PrintedTable
fitted_rows how total limits text t = fitted_table how total limits t.config (map (λ row. map text row) t.rows) (columns_of t.rows) (λ place. color_at place t.colors)

abbrev pub fit_fault_rows : {T : Type 0} → (T → Text) → Parts T → Option TableFault
fit_fault_rows text t = fit_fault t.config (map (λ row. map text row) t.rows) (columns_of t.rows)

abbrev pub IsNarrowRows : {T : Type 0} → ℕ → List ℕ → (T → Text) → Parts T → Type 0
IsNarrowRows total limits text t = IsNarrow total limits t.config (map (λ row. map text row) t.rows) (columns_of t.rows)

abbrev pub least_width_rows : {T : Type 0} → Overflow → (T → Text) → Parts T → ℕ
least_width_rows how text t = least_full_width how t.config (map (λ row. map text row) t.rows) (columns_of t.rows)

abbrev pub least_fault_rows : {T : Type 0} → Overflow → (T → Text) → Parts T → Option TableFault
least_fault_rows how text t = least_fault how t.config (map (λ row. map text row) t.rows) (columns_of t.rows)

abbrev pub keeps_spans_rows : {T : Type 0} → (T → Text) → Parts T → Bool
keeps_spans_rows text t = keeps_spans t.config (map (λ row. map text row) t.rows) (columns_of t.rows)

abbrev pub least_at_rows : {T : Type 0} → Overflow → (T → Text) → Parts T → ℕ → ℕ
least_at_rows how text t k = least_width_at how t.config (map (λ row. map text row) t.rows) (columns_of t.rows) k

abbrev pub drawn_rows : {T B A : Type 0} → (T → Text) → FittedTable (Bor (List (List T))) (List (Position × Color)) B A → PrintedTable
drawn_rows text t = printed_fitted_table (λ r. map (λ row. map text row) r.now) (λ r. columns_of r.now) (λ colors place. color_at place colors) t

-- ---- a table of which one column takes what its lines lack of a width

-- what a line of a table lacks of so many terminal columns; a table without cells has no line
abbrev pub lacking : ℕ → PrintedTable → ℕ
lacking total t = if is_empty t then 0 else total - full_width t

-- the table with that much in column `column`, if there is one
abbrev pub filled : ℕ → ℕ → PrintedTable → PrintedTable
filled total column t = record t { width = λ k. if (k == column) && nat_lt k t.columns then t.width k + lacking total t else t.width k }

-- a table at listed sizes
abbrev pub at_sizes : {A : Type 0} → ConstantDimension A → PrintedTable → PrintedTable
at_sizes d t = record t { width = λ k. slice_index_or d.0.items k 0; height = λ k. slice_index_or d.1.items k 0 }

-- what a filled table draws, and what it draws over the rows of a table
abbrev pub printed_filled_table : {R C B A : Type 0} → (R → List (List Text)) → (R → ℕ) → (C → Position → Option Color) → FilledTable R C B A → PrintedTable
printed_filled_table texts columns color t = filled t.width t.column (printed_fitted_table texts columns color t.fitted)

abbrev pub filled_rows : {T B A : Type 0} → (T → Text) → FilledTable (Bor (List (List T))) (List (Position × Color)) B A → PrintedTable
filled_rows text t = printed_filled_table (λ r. map (λ row. map text row) r.now) (λ r. columns_of r.now) (λ colors place. color_at place colors) t
