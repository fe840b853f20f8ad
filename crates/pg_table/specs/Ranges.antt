-- Tables within a width whose first columns have a least and a greatest width.
use Rattle.std.specs.Prelude.{ℕ, ◌+◌, ◌-◌, ◌^◌, max, min, List, map, sum_by, slice_index, slice_index_or, Option}
use Rattle.std.specs.List.{range_with_len}
use Rattle.pg_layout.specs.declared.position.Position.{Position}
use Rattle.pg_layout.specs.Colors.{Color}
use Rattle.pg_layout.specs.ColorsMap.{color_at}
use Rattle.pg_layout.specs.Records.{columns_of}
use Rattle.pg_layout.specs.Text.{Text}
use Rattle.pg_config.specs.Config.{Config}
use Rattle.pg_fit.specs.declared.narrowing.ColumnRange.{ColumnRange}
use Rattle.pg_fit.specs.Narrowing.{limited, narrowed}
use Rattle.pg_picture.specs.Table.{Table as PrintedTable}
use Rattle.pg_table.specs.Fitted.{least_width_at, fitted_table}
use Rattle.pg_table.specs.Natural.{natural_sizes}
use Rattle.pg_table.specs.Overflowing.{beside_columns}
use Rattle.pg_table.specs.Printing.{Parts}
use Rattle.pg_table.specs.declared.overflow.Overflow.{Overflow}
use Rattle.pg_table.specs.declared.sizes.Axis.TheVariants.{Columns}

-- ---- columns

-- a column of this least and natural width: it is never narrowed below the least width of its range, and it is at most as wide as the
-- natural one, unless it can't be as narrow
abbrev pub ranged : ColumnRange → ℕ → ℕ → ColumnRange
ranged range least natural = limited range.natural (record { least = max least (min range.least natural); natural = natural })

-- the range of column k, if the first columns have ranges: any other column may have each width
abbrev pub range_of : List ColumnRange → ℕ → ColumnRange
range_of ranges k = slice_index_or ranges k (record { least = 0; natural = 2 ^ 64 - 1 })

module _ (how : Overflow) (ranges : List ColumnRange) (config : Config) (texts : List (List Text)) (columns : ℕ) where
  abbrev pub ranged_column : ℕ → ColumnRange
  ranged_column k = ranged (range_of ranges k) (least_width_at how config texts columns k) (slice_index (natural_sizes Columns config texts columns) k)

  -- the width of a line whose columns are as narrow as their ranges allow
  unfoldable pub ranged_least_width : ℕ
  ranged_least_width = sum_by (λ k. (ranged_column k).least) (range_with_len 0 columns) + beside_columns config columns

  -- the widths of the columns within a total
  unfoldable pub ranged_widths : ℕ → List ℕ
  ranged_widths total = narrowed (total - beside_columns config columns) (map ranged_column (range_with_len 0 columns))

  -- the table whose columns are limited to these widths
  abbrev pub ranged_table : ℕ → (Position → Option Color) → PrintedTable
  ranged_table total color = fitted_table how (2 ^ 64 - 1) (ranged_widths total) config texts columns color

-- ---- tables

-- the table of lent parts, and the width of a line whose columns are as narrow as their ranges allow
abbrev pub ranged_of : {R C : Type 0} → Overflow → ℕ → List ColumnRange → (R → List (List Text)) → (R → ℕ) → (C → Position → Option Color) → R × Config × C × List ℕ → PrintedTable
ranged_of how total ranges texts columns color (records, config, colors, told) = ranged_table how ranges config (texts records) (columns records) total (color colors)

abbrev pub ranged_least_of : {R C : Type 0} → Overflow → List ColumnRange → (R → List (List Text)) → (R → ℕ) → R × Config × C × List ℕ → ℕ
ranged_least_of how ranges texts columns (records, config, colors, told) = ranged_least_width how ranges config (texts records) (columns records)

-- the same of a table with rows of its own, by the texts of its cells
abbrev pub ranged_rows : {T : Type 0} → Overflow → ℕ → List ColumnRange → (T → Text) → Parts T → PrintedTable
ranged_rows how total ranges text t = ranged_table how ranges t.config (map (λ row. map text row) t.rows) (columns_of t.rows) total (λ place. color_at place t.colors)

abbrev pub ranged_least_rows : {T : Type 0} → Overflow → List ColumnRange → (T → Text) → Parts T → ℕ
ranged_least_rows how ranges text t = ranged_least_width how ranges t.config (map (λ row. map text row) t.rows) (columns_of t.rows)
