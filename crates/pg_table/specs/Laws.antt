-- What natural sizes give a table.
use Rattle.std.specs.List.{range_with_len, list_all}
use Rattle.std.specs.Prelude.{◌≡◌, ℕ, ◌<◌, ◌&&◌, true, not, List, [], map, length, Option, Some, None, if◌then◌else◌, ◌-◌, ◌≤◌, ◌≢◌, max, false, slice_index_or, sum_by, All}
use Rattle.pg_layout.specs.declared.position.Position.{Position}
use Rattle.pg_layout.specs.declared.position.Entity.TheVariants.{Global}
use Rattle.pg_layout.specs.declared.borders.Borders.{Borders}
use Rattle.pg_layout.specs.declared.borders.HorizontalLine.{HorizontalLine}
use Rattle.pg_layout.specs.declared.sides.Indent.{Indent}
use Rattle.pg_layout.specs.declared.sides.Sides.{Sides}
use Rattle.pg_layout.specs.Colors.{Color}
use Rattle.pg_layout.specs.Looks.{all_looks, all_header_lines, borders_of}
use Rattle.pg_layout.specs.Text.{Text, greatest}
use Rattle.pg_config.specs.Config.{Config}
use Rattle.pg_config.specs.Settings.{with_setting}
use Rattle.pg_picture.specs.Fits.{spans_fit, totals_fit, misfit_of}
use Rattle.pg_picture.specs.Table.{is_empty, Table}
use Rattle.pg_picture.specs.declared.fits.Misfit.TheVariants.{Spans, Totals}
use Rattle.pg_table.specs.Natural.{cell_size, cell_at, count_cells, natural_size, natural_sizes, natural_table, all_fit, lacking, takes, widened}
use Rattle.pg_table.specs.Even.{IsNarrowLook, are_line_glyphs, is_of_line_glyphs, are_line_fills}
use Rattle.pg_table.specs.Printing.{ascii_config, with_header_line}
use Rattle.pg_table.specs.declared.sizes.Axis.{Axis}
use Rattle.pg_table.specs.declared.sizes.Axis.TheVariants.{Columns, Rows}
use Rattle.pg_table.specs.declared.needs.Need.{Need}
use Rattle.std.specs.Option.{option_map}
use Rattle.pg_picture.specs.Shown.{unshown_of}
use Rattle.pg_picture.specs.declared.fits.Misfit as misfit
use Rattle.pg_picture.specs.declared.shown.Unshown.TheVariants.{Misfit}

-- At its natural sizes a table has room for each of its shown cells: nothing but spans that don't fit and totals that are no
-- numbers can misfit.
abbrev pub NaturalTablesHaveRoom : Type 0
NaturalTablesHaveRoom =
    (config : Config) (texts : List (List Text)) (columns : ℕ) (color : Position → Option Color)
    → misfit_of (natural_table config texts columns color)
    ≡ (if is_empty (natural_table config texts columns color) then None
    else if not (spans_fit config.spans (length texts) columns) then Some Spans
    else if totals_fit (natural_table config texts columns color) then None
    else Some Totals)

-- Without spans a column is as wide as its widest cell, and a row as high as its highest one.
abbrev pub PlainSizes : Type 0
PlainSizes =
    (axis : Axis) (config : Config) (text : Position → Text) (rows columns k : ℕ) → config.spans ≡ [] → 0 < count_cells axis rows columns
    → natural_size axis config text rows columns k ≡ greatest (map (λ j. cell_size axis config text (cell_at axis k j)) (range_with_len 0 (count_cells axis rows columns)))

-- Where its totals fit, each natural size does.
abbrev pub TotalsHoldSizes : Type 0
TotalsHoldSizes =
    (config : Config) (texts : List (List Text)) (columns : ℕ) (color : Position → Option Color)
    → totals_fit (natural_table config texts columns color) ≡ true
    → (all_fit (natural_sizes Columns config texts columns) && all_fit (natural_sizes Rows config texts columns)) ≡ true

-- ---- lines that are equally wide

-- A configuration that was told nothing but ASCII borders takes one column a glyph and a fill. It stays so where it is told
-- borders, a line below the header of a table of any size, or a padding of all cells, of glyphs that do: each look by name
-- is of such glyphs, and so is each line below a header.
pub record LooksAreNarrow : Type 0 where
  pub first : IsNarrowLook ascii_config
  pub borders : (config : Config) (b : Borders ℕ) → are_line_glyphs b ≡ true → IsNarrowLook config → IsNarrowLook (record config { borders = b })
  pub header : (config : Config) (line : HorizontalLine ℕ) (rows columns : ℕ) → is_of_line_glyphs line ≡ true → IsNarrowLook config → IsNarrowLook (with_header_line line rows columns config)
  pub padding : (config : Config) (sides : Sides Indent) → are_line_fills sides ≡ true → IsNarrowLook config → IsNarrowLook (record config { padding = with_setting Global sides config.padding })
  pub looks : list_all (λ look. are_line_glyphs (borders_of look)) all_looks ≡ true
  pub lines : list_all is_of_line_glyphs all_header_lines ≡ true

-- ---- widened columns

-- Each cell has room.
abbrev pub CellsHaveRoom : Type 0
CellsHaveRoom =
    (base : ℕ → ℕ) (needs : List Need) (n : ℕ) → All (λ need. 0 < need.count) needs → All (λ need. need.count ≤ n) needs
    → All (λ need. need.size ≤ sum_by (widened base needs n) (range_with_len need.first need.count)) needs

-- No column is narrower than its widest cell of one column, and none is wider than its widest cell.
abbrev pub NoColumnShrinks : Type 0
NoColumnShrinks = (base : ℕ → ℕ) (needs : List Need) (n k : ℕ) → base k ≤ widened base needs n k

abbrev pub NoColumnPassesItsCells : Type 0
NoColumnPassesItsCells =
    (base : ℕ → ℕ) (needs : List Need) (n k m : ℕ) → base k ≤ m → All (λ need. takes k need ≡ true → need.size ≤ m) needs → widened base needs n k ≤ m

-- Where no cell lacks room, each column stays as it is.
abbrev pub EnoughStays : Type 0
EnoughStays = (base : ℕ → ℕ) (needs : List Need) → All (λ need. lacking base need ≡ 0) needs → (n k : ℕ) → widened base needs n k ≡ base k

-- A cell of whose columns no other cell of as many or more takes any is filled exactly: they are as wide as it is, or as
-- wide as the smaller cells make them.
abbrev pub IsAlone : List Need → ℕ → Need → Type 0
IsAlone needs i need = (j k : ℕ) (d : Need) → j < length needs → j ≢ i → need.count ≤ (slice_index_or needs j d).count → takes k need ≡ true → takes k (slice_index_or needs j d) ≡ false

abbrev pub AloneIsExact : Type 0
AloneIsExact =
    (base : ℕ → ℕ) (needs : List Need) (i n : ℕ) (d : Need) → i < length needs → 0 < (slice_index_or needs i d).count → (slice_index_or needs i d).count ≤ n
    → IsAlone needs i (slice_index_or needs i d)
    → sum_by (widened base needs n) (range_with_len (slice_index_or needs i d).first (slice_index_or needs i d).count)
    ≡ max (sum_by (widened base needs ((slice_index_or needs i d).count - 1)) (range_with_len (slice_index_or needs i d).first (slice_index_or needs i d).count)) (slice_index_or needs i d).size

-- ---- natural heights

-- the table of these texts of so many columns, at these widths and its natural heights
abbrev pub table_of_widths : Config → List (List Text) → ℕ → (ℕ → ℕ) → (Position → Option Color) → Table
table_of_widths config texts columns width color = record (natural_table config texts columns color) { width = width }

-- Whatever the widths are, such a table shows each line of its texts, if it fits.
abbrev pub NaturalHeightsShowAll : Type 0
NaturalHeightsShowAll =
    (config : Config) (texts : List (List Text)) (columns : ℕ) (width : ℕ → ℕ) (color : Position → Option Color)
    → unshown_of (table_of_widths config texts columns width color) ≡ option_map (λ (m : misfit.Misfit). Misfit m) (misfit_of (table_of_widths config texts columns width color))
