-- A table that keeps spans, within a width: texts are fitted to all columns of their cells, and columns are at least as wide as they are told.
use Rattle.std.specs.Prelude.{ℕ, ◌+◌, ◌-◌, ◌==◌, ◌&&◌, ◌||◌, Bool, not, nat_le, max, List, [], ◌∷◌, map, length, sum_by, count_by, slice_index, slice_index_or, Option, if◌then◌else◌}
use Rattle.std.specs.List.{range_with_len, list_all}
use Rattle.pg_layout.specs.declared.position.Position.{Position}
use Rattle.pg_layout.specs.Colors.{Color}
use Rattle.pg_layout.specs.Position.{at}
use Rattle.pg_layout.specs.Records.{text_at}
use Rattle.pg_layout.specs.Text.{Text, greatest}
use Rattle.pg_config.specs.Config.{Config, get_formatting, has_vertical}
use Rattle.pg_config.specs.Spans.{Span, corner, is_visible}
use Rattle.pg_fit.specs.declared.narrowing.ColumnRange.{ColumnRange}
use Rattle.pg_fit.specs.Narrowing.{limited, narrowed}
use Rattle.pg_picture.specs.Sizes.{sized}
use Rattle.pg_picture.specs.Table.{Table, rect_width}
use Rattle.pg_table.specs.Natural.{paddings, cell_size, is_single, natural_sizes, natural_table, widened}
use Rattle.pg_table.specs.Overflowing.{fitted_text, least_text_width, beside_columns, limit_of}
use Rattle.pg_table.specs.declared.needs.Need.{Need}
use Rattle.pg_table.specs.declared.overflow.Overflow.{Overflow}
use Rattle.pg_table.specs.declared.sizes.Axis.TheVariants.{Columns}

-- a table with cells keeps a span
abbrev pub keeps_spans : Config → List (List Text) → ℕ → Bool
keeps_spans config texts columns = not ((length texts == 0) || (columns == 0)) && not (length config.spans == 0)

-- ---- columns that have room for cells, each of which takes so many terminal columns

module _ (config : Config) (rows columns : ℕ) (size : Position → ℕ) where
  -- the width of column k by cells without a span
  unfoldable pub singles_width : ℕ → ℕ
  singles_width k = greatest (map (λ r. if is_single config.spans (at r k) then size (at r k) else 0) (range_with_len 0 rows))

  -- what a cell with a span needs of its columns: its width less the column lines between them
  abbrev pub room_needed : Span → Need
  room_needed s = record {
    first = s.0.col;
    count = s.1.columns;
    size = size (corner s) - count_by (λ c. has_vertical config c columns) (range_with_len (s.0.col + 1) (s.1.columns - 1));
  }

  -- the width of column k, which is at least as wide as it is told, with room for all of them: widened as natural widths are
  unfoldable pub width_for : (ℕ → ℕ) → ℕ → ℕ
  width_for told k = widened (λ c. max (told c) (singles_width c)) (map room_needed config.spans) columns k

-- the widths of the columns of a table that keeps spans, each at least as wide as it is told; of any other table, or where nothing is told, the natural ones
abbrev pub widths_from : List ℕ → Config → List (List Text) → ℕ → List ℕ
widths_from [] config texts columns = natural_sizes Columns config texts columns
widths_from (first ∷ told) config texts columns =
    if keeps_spans config texts columns then map (width_for config (length texts) columns (cell_size Columns config (text_at texts)) (slice_index (first ∷ told))) (range_with_len 0 columns)
    else natural_sizes Columns config texts columns

-- the table of these texts at these widths, and its natural heights
abbrev pub table_from : List ℕ → Config → List (List Text) → ℕ → (Position → Option Color) → Table
table_from told config texts columns color = record (natural_table config texts columns color) { width = λ k. slice_index_or (widths_from told config texts columns) k 0 }

-- ---- columns within a width

-- what a cell takes at least
abbrev pub least_cell_width : Overflow → Config → (Position → Text) → Position → ℕ
least_cell_width how config text p = paddings Columns config p + least_text_width how config text p

-- the least width of column k: with room for all cells, each as narrow as it can be made
unfoldable pub spanned_least_width : Overflow → Config → List (List Text) → ℕ → ℕ → ℕ
spanned_least_width how config texts columns k = width_for config (length texts) columns (least_cell_width how config (text_at texts)) (λ c. 0) k

-- columns of these widths are within their limits, and together within what the column lines and the side margins leave of a total
abbrev pub are_within : ℕ → List ℕ → Config → ℕ → List ℕ → Bool
are_within total limits config columns widths =
    list_all (λ k. nat_le (slice_index widths k) (limit_of limits k)) (range_with_len 0 columns)
    && nat_le (sum_by (slice_index widths) (range_with_len 0 columns)) (total - beside_columns config columns)

module _ (how : Overflow) (total : ℕ) (limits : List ℕ) (config : Config) (texts : List (List Text)) (columns : ℕ) where
  -- how narrow column k may be, and its natural width, lowered to its limit
  abbrev pub spanned_range : ℕ → ColumnRange
  spanned_range k =
      limited (limit_of limits k) (record { least = spanned_least_width how config texts columns k; natural = slice_index (natural_sizes Columns config texts columns) k })

  -- the widths of the columns: the natural ones where these are within the bounds
  unfoldable pub spanned_widths : List ℕ
  spanned_widths =
      if are_within total limits config columns (natural_sizes Columns config texts columns) then natural_sizes Columns config texts columns
      else narrowed (total - beside_columns config columns) (map spanned_range (range_with_len 0 columns))

-- the terminal columns that a cell has, where columns have these widths: those of all its columns, and the column lines between them
unfoldable pub cell_room : List ℕ → Config → ℕ → ℕ → Position → ℕ
cell_room widths config rows columns p = rect_width (sized config (slice_index widths) (λ r. 0) rows columns) p

module _ (how : Overflow) (widths : List ℕ) (config : Config) (texts : List (List Text)) (columns : ℕ) where
  -- the text of a cell; one that isn't shown stays
  unfoldable pub spanned_text : Position → Text
  spanned_text p =
      if is_visible config.spans p then fitted_text how (get_formatting config p) (cell_room widths config (length texts) columns p - paddings Columns config p) (text_at texts p)
      else text_at texts p

  -- all texts
  unfoldable pub spanned_texts : List (List Text)
  spanned_texts = map (λ r. map (λ c. spanned_text (at r c)) (range_with_len 0 columns)) (range_with_len 0 (length texts))
