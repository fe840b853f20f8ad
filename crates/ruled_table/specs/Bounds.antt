-- How narrow and how wide columns and tables may be, and the table that is drawn within that.
use Rattle.std.specs.Prelude.{ℕ, ◌+◌, ◌-◌, ◌^◌, ◌==◌, ◌||◌, not, Bool, List, map, length, Option, Some, None, is_some, unwrap_or, if◌then◌else◌, min, nat_lt, [], slice_index_or}
use Rattle.std.specs.List.{range_with_len, list_all}
use Rattle.std.specs.Option.{option_or}
use Rattle.pg_layout.specs.Colors.{Color}
use Rattle.pg_layout.specs.Records.{columns_of}
use Rattle.pg_layout.specs.Text.{Text, greatest, text_width_of}
use Rattle.pg_layout.specs.declared.position.Position.{Position}
use Rattle.pg_config.specs.Config.{Config, count_vertical}
use Rattle.pg_picture.specs.Table.{Table}
use Rattle.pg_table.specs.Fitted.{fit_fault, fitted_table}
use Rattle.pg_table.specs.Natural.{natural_table}
use Rattle.pg_table.specs.Printing.{fault_of}
use Rattle.pg_table.specs.declared.fault.TableFault.{TableFault}
use Rattle.ruled_table.specs.Columns.{told_of}
use Rattle.ruled_table.specs.declared.bounds.Bounds.{Bounds}
use Rattle.csv.specs.Records.{Row}
use Rattle.pg_fit.specs.Narrowing.{narrowed}
use Rattle.pg_fit.specs.declared.narrowing.ColumnRange.{ColumnRange}
use Rattle.ruled_table.specs.Sides.{body_of, is_numeric}
use Rattle.ruled_table.specs.declared.options.Options.{Options}

-- ---- bounds

-- some bound is told
abbrev pub are_told : Bounds → Bool
are_told bounds = is_some bounds.width || not (length bounds.limits.items == 0)

-- the greatest width of a line: where none is told, the greatest number
abbrev pub width_of : Option ℕ → ℕ
width_of width = unwrap_or width (2 ^ 64 - 1)

-- the greatest width of a column, whose texts may take so many columns, with a space at each side of them
abbrev pub limit_of : Option ℕ → ℕ
limit_of None = 2 ^ 64 - 1
limit_of (Some columns) = columns + 2

-- the greatest widths of so many columns
abbrev pub limits_of : List (Option ℕ) → ℕ → List ℕ
limits_of limits columns = map (λ column. limit_of (told_of limits column)) (range_with_len 0 columns)

-- ---- tables

module _ (bounds : Bounds) (config : Config) (color : Position → Option Color) (texts : List (List Text)) where
  -- the table of these texts, fitted to the bounds
  abbrev pub fitted_within : Table
  fitted_within = fitted_table bounds.overflow (width_of bounds.width) (limits_of bounds.limits.items (columns_of texts)) config texts (columns_of texts) color

  -- where some are told, and else at its natural sizes
  abbrev pub bounded_table : Table
  bounded_table = if are_told bounds then fitted_within else natural_table config texts (columns_of texts) color

  -- why it isn't drawn
  abbrev pub bounded_fault : Option TableFault
  bounded_fault = option_or (if are_told bounds then fit_fault config texts (columns_of texts) else None) (fault_of bounded_table)

-- ---- how narrow and how wide columns may be

-- how many terminal columns the widest text of a column takes
abbrev pub widest_text : List (List Text) → ℕ → ℕ
widest_text rows column = greatest (map (λ row. text_width_of (slice_index_or row column [])) rows)

-- the text of each record has fewer bytes than memory may hold
abbrev pub are_counted : List Row → Bool
are_counted records = list_all (λ row. nat_lt (length row.bytes) (2 ^ 63)) records

-- of rows with these fields, and the texts that are shown of them
module _ (options : Options) (fields rows : List (List Text)) where
  -- with enough room a column is as wide as its widest text, with a space at each side, and its limit allow
  abbrev pub natural_of : ℕ → ℕ
  natural_of column = min (widest_text rows column + 2) (limit_of (told_of options.bounds.limits.items column))

  -- Columns of numbers keep room for their numbers, while others have at least two columns for their texts.
  abbrev pub least_of : ℕ → ℕ
  least_of column = if is_numeric options (body_of options.has_header fields) column then widest_text (body_of options.has_header rows) column + 2 else 4

  abbrev pub range_of : ℕ → ColumnRange
  range_of column = record { least = min (natural_of column) (least_of column); natural = natural_of column }

  -- the greatest widths of the columns, so that those of numbers are narrowed last
  abbrev pub kept_limits : Config → List ℕ
  kept_limits config = narrowed (width_of options.bounds.width - count_vertical config (columns_of rows)) (map range_of (range_with_len 0 (columns_of rows)))
