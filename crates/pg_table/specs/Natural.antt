-- A table at its natural sizes: each column as wide as its widest cell, each row as high as its highest one.
use Rattle.std.specs.Prelude.{ℕ, zero, suc, ◌+◌, ◌-◌, ◌/◌, ◌%◌, Bool, ◌&&◌, ◌==◌, nat_lt, nat_le, List, map, sum_by, if◌then◌else◌, ◌^◌, ◌||◌, not, find, length, count_by, slice_index_or}
use Rattle.std.specs.Prelude.{Option, is_none}
use Rattle.std.specs.List.{range_with_len, list_all}
use Rattle.pg_layout.specs.Text.{greatest, Text}
use Rattle.pg_table.specs.declared.needs.Need.{Need}
use Rattle.pg_layout.specs.declared.position.Position.{Position}
use Rattle.pg_layout.specs.Colors.{Color}
use Rattle.pg_layout.specs.Position.{at}
use Rattle.pg_layout.specs.Records.{text_at}
use Rattle.pg_config.specs.Config.{Config, get_padding, get_formatting, has_horizontal, has_vertical}
use Rattle.pg_config.specs.Spans.{Span, corner, in_span, is_visible}
use Rattle.pg_picture.specs.Pieces.{shown, widest}
use Rattle.pg_picture.specs.Table.{Table}
use Rattle.pg_table.specs.declared.sizes.Axis.{Axis}
use Rattle.pg_table.specs.declared.sizes.Axis.TheVariants.{Columns, Rows}

-- ---- how wide columns are, or how high rows, under cells that take several of them

-- no cell
abbrev pub nothing : Need
nothing = record { first = 0; count = 0; size = 0 }

-- share j of n of a number: evenly, and what can't be divided goes to the first ones, one each
abbrev pub share : ℕ → ℕ → ℕ → ℕ
share x n j = x / n + (if nat_lt j (x % n) then 1 else 0)

-- what a cell lacks where columns are so wide
unfoldable pub lacking : (ℕ → ℕ) → Need → ℕ
lacking size need = need.size - sum_by size (range_with_len need.first need.count)

-- it takes column k
abbrev pub takes : ℕ → Need → Bool
takes k need = nat_le need.first k && nat_lt k (need.first + need.count)

-- by how much it widens column k, among the cells of n columns
unfoldable pub widening : (ℕ → ℕ) → ℕ → ℕ → Need → ℕ
widening size n k need = if (need.count == n) && takes k need then share (lacking size need) n (k - need.first) else 0

-- the width of column k by the cells that take up to n columns
unfoldable pub widened : (ℕ → ℕ) → List Need → ℕ → ℕ → ℕ
widened base needs zero k = base k
widened base needs (suc n) k = widened base needs n k + greatest (map (widening (widened base needs n) (suc n) k) needs)

-- ---- natural sizes

-- what the paddings of a cell take: at its sides, or above and below
abbrev pub paddings : Axis → Config → Position → ℕ
paddings Columns config p = (get_padding config p).left.size + (get_padding config p).right.size
paddings Rows config p = (get_padding config p).top.size + (get_padding config p).bottom.size

-- what its text takes: the columns of its widest line, or the number of its shown lines
abbrev pub text_size : Axis → Config → (Position → Text) → Position → ℕ
text_size Columns config text p = widest (get_formatting config p) (text p)
text_size Rows config text p = length (shown (get_formatting config p) (text p))

-- the width of a cell, or its height
abbrev pub cell_size : Axis → Config → (Position → Text) → Position → ℕ
cell_size axis config text p = paddings axis config p + text_size axis config text p

-- cell j of column k, or of row k
abbrev pub cell_at : Axis → ℕ → ℕ → Position
cell_at Columns k j = at j k
cell_at Rows k j = at k j

-- how many columns there are, or rows; and how many cells each of them has
abbrev pub count : Axis → ℕ → ℕ → ℕ
count Columns rows columns = columns
count Rows rows columns = rows

abbrev pub count_cells : Axis → ℕ → ℕ → ℕ
count_cells Columns rows columns = rows
count_cells Rows rows columns = columns

-- no rectangle that is kept holds the place: its cell takes one column and one row
abbrev pub is_single : List Span → Position → Bool
is_single spans p = is_none (find (in_span p.row p.col) spans)

-- what such a cell takes; the others count for nothing here
abbrev pub single_size : Axis → Config → (Position → Text) → Position → ℕ
single_size axis config text p = if is_single config.spans p then cell_size axis config text p else 0

-- the width of column k by them alone, or the height of row k, of so many cells: the greatest of them
unfoldable pub size_of_singles : Axis → Config → (Position → Text) → ℕ → ℕ → ℕ
size_of_singles axis config text cells k = greatest (map (λ j. single_size axis config text (cell_at axis k j)) (range_with_len 0 cells))

-- what a cell with a span needs of its columns, or its rows, in a table of so many: its size less the lines between them
abbrev pub need_of : Axis → Config → (Position → Text) → ℕ → Span → Need
need_of Columns config text columns s = record {
  first = s.0.col;
  count = s.1.columns;
  size = cell_size Columns config text (corner s) - count_by (λ c. has_vertical config c columns) (range_with_len (s.0.col + 1) (s.1.columns - 1));
}
need_of Rows config text rows s = record {
  first = s.0.row;
  count = s.1.rows;
  size = cell_size Rows config text (corner s) - count_by (λ r. has_horizontal config r rows) (range_with_len (s.0.row + 1) (s.1.rows - 1));
}

-- the natural width of column k, or the natural height of row k, of a table of so many rows and columns: that of its single
-- cells, widened for those with a span, the smaller ones first; and where it has no cells the paddings of its first place
unfoldable pub natural_size : Axis → Config → (Position → Text) → ℕ → ℕ → ℕ → ℕ
natural_size axis config text rows columns k =
    if count_cells axis rows columns == 0 then paddings axis config (cell_at axis k 0)
    else widened (size_of_singles axis config text (count_cells axis rows columns)) (map (need_of axis config text (count axis rows columns)) config.spans) (count axis rows columns) k

-- the natural widths of all columns of texts, or the natural heights of all rows
unfoldable pub natural_sizes : Axis → Config → List (List Text) → ℕ → List ℕ
natural_sizes axis config texts columns =
    map (natural_size axis config (text_at texts) (length texts) columns) (range_with_len 0 (count axis (length texts) columns))

-- all are numbers of 64 bits
abbrev pub all_fit : List ℕ → Bool
all_fit sizes = list_all (λ n. nat_lt n (2 ^ 64)) sizes

-- the width and the height of a cell are numbers of 64 bits
abbrev pub is_sized : Config → (Position → Text) → Position → Bool
is_sized config text p = nat_lt (cell_size Columns config text p) (2 ^ 64) && nat_lt (cell_size Rows config text p) (2 ^ 64)

-- those of each shown cell are
unfoldable pub cells_fit : Config → (Position → Text) → ℕ → ℕ → Bool
cells_fit config text rows columns =
    list_all (λ r. list_all (λ c. not (is_visible config.spans (at r c)) || is_sized config text (at r c)) (range_with_len 0 columns)) (range_with_len 0 rows)

-- the table of these texts of so many columns, at its natural sizes
abbrev pub natural_table : Config → List (List Text) → ℕ → (Position → Option Color) → Table
natural_table config texts columns color = record {
  config = config;
  rows = length texts;
  columns = columns;
  width = λ column. slice_index_or (natural_sizes Columns config texts columns) column 0;
  height = λ row. slice_index_or (natural_sizes Rows config texts columns) row 0;
  text = text_at texts;
  color = color;
}
