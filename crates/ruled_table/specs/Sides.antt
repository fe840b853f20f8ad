-- At which side of its cells the texts of a column stand, and numbers whose points are below one another.
use Rattle.std.specs.Prelude.{ℕ, ◌||◌, Bool, List, [], drop, slice_index_or, fold, string_bytes, Option, Some, None, if◌then◌else◌, ◌-◌, ◌==◌, ◌&&◌, max, true, false, ◌∷◌, ◌++◌, codes}
use Rattle.std.specs.Prelude.{length, map, position, ◌≡◌, ◌+◌, ◌<◌, ◌^◌}
use Rattle.std.specs.List.{list_all, list_any, range_with_len, repeat}
use Rattle.std.specs.Str.{bytes_eq, IsUtf8}
use Rattle.pg_layout.specs.Records.{columns_of}
use Rattle.pg_layout.specs.Text.{Text, greatest, lines_of}
use Rattle.pg_layout.specs.Position.{at}
use Rattle.pg_layout.specs.declared.alignment.AlignmentHorizontal.{AlignmentHorizontal}
use Rattle.pg_layout.specs.declared.alignment.AlignmentHorizontal.TheVariants.{Left, Center, Right}
use Rattle.pg_layout.specs.declared.position.Entity.TheVariants.{Column}
use Rattle.pg_config.specs.Cells.{Style}
use Rattle.pg_config.specs.Config.{Config, get_alignment_horizontal}
use Rattle.pg_config.specs.Settings.{Settings, with_setting}
use Rattle.pg_picture.specs.Fits.{cell_fits}
use Rattle.pg_picture.specs.Pieces.{block_line, written}
use Rattle.ruled_table.specs.Columns.{told_of}
use Rattle.pg_table.specs.Numbers.{is_number_or_blank, lacking, no_extent, own_extent}
use Rattle.pg_table.specs.OwnRows.{longest_rest, widened_right}
use Rattle.ruled_table.specs.declared.options.Options.{Options}
use Rattle.ruled_table.specs.declared.options.Side.{Side}
use Rattle.ruled_table.specs.declared.options.Side.TheVariants.{To, Point}
use Rattle.pg_table.specs.declared.numbers.Extent.{Extent}

-- ---- columns of numbers

-- the rows below a header
abbrev pub body_of : {X : Type 0} → Bool → List X → List X
body_of has_header rows = if has_header then drop 1 rows else rows

-- one of the texts that count as blank
abbrev pub is_missing : Options → Text → Bool
is_missing options text = list_any (λ word. bytes_eq text (string_bytes word)) options.missing.items

-- `⋮`, in place of the texts of rows that are left out
abbrev pub gap : List ℕ
gap = 226 ∷ 139 ∷ 174 ∷ []

-- a number, blank, `⋮`, or one of those
abbrev pub is_numeric_text : Options → Text → Bool
is_numeric_text options text = is_number_or_blank text || (bytes_eq text gap || is_missing options text)

-- each text of the column is
abbrev pub is_numeric : Options → List (List Text) → ℕ → Bool
is_numeric options rows column = list_all (λ row. is_numeric_text options (slice_index_or row column [])) rows

-- ---- sides

-- where nothing else is said, numbers stand at the right
abbrev pub side_by : Option Side → Bool → AlignmentHorizontal
side_by None numeric = if numeric then Right else Left
side_by (Some (To side)) numeric = side
side_by (Some Point) numeric = if numeric then Right else Left

abbrev pub side_of : Options → List (List Text) → ℕ → AlignmentHorizontal
side_of options rows column = side_by (told_of options.sides.items column) (is_numeric options (body_of options.has_header rows) column)

-- ---- their settings

-- the left is where texts stand without a setting
abbrev pub with_side : ℕ → AlignmentHorizontal → Settings AlignmentHorizontal → Settings AlignmentHorizontal
with_side column Left settings = settings
with_side column Center settings = with_setting (Column column) Center settings
with_side column Right settings = with_setting (Column column) Right settings

-- so many columns at these sides
abbrev pub with_sides : (ℕ → AlignmentHorizontal) → ℕ → Settings AlignmentHorizontal → Settings AlignmentHorizontal
with_sides side columns settings = fold (λ settings column. with_side column (side column) settings) settings (range_with_len 0 columns)

-- the columns of these rows at their sides
abbrev pub sided : Options → List (List Text) → Config → Config
sided options rows config = record config { alignment_horizontal = with_sides (side_of options rows) (columns_of rows) config.alignment_horizontal }

-- each column of these rows is at its side
abbrev pub AreSided : Options → Config → List (List Text) → Type 0
AreSided options config rows = (column : ℕ) → column < columns_of rows → get_alignment_horizontal config (at 0 column) ≡ side_of options rows column

-- ---- numbers whose points are below one another

-- a number with the spaces behind it that its rest lacks, or any other text
abbrev pub pointed : ℕ → Text → Text
pointed rest text = text ++ repeat (lacking rest text) (codes " ")

-- ---- columns whose points are below one another

abbrev pub is_point : Option Side → Bool
is_point None = false
is_point (Some (To side)) = false
is_point (Some Point) = true

-- those that are so aligned, and have numbers
abbrev pub is_pointed : Options → List (List Text) → ℕ → Bool
is_pointed options rows column = is_point (told_of options.sides.items column) && is_numeric options (body_of options.has_header rows) column

-- the longest whole part and the longest rest of the numbers of a column
abbrev pub extent_of : List (List Text) → ℕ → Extent
extent_of rows column = record {
  whole = greatest (map (λ row. (own_extent (slice_index_or row column [])).whole) rows);
  rest = greatest (map (λ row. (own_extent (slice_index_or row column [])).rest) rows);
}

-- ---- fields that these columns show

abbrev pub shows : ℕ → Option ℕ → Bool
shows field None = false
shows field (Some place) = place == field

module _ (options : Options) (places : List (Option ℕ)) (rows : List (List Text)) where
  -- the first column that shows a field determines its extent
  abbrev pub extent_by : Option ℕ → Extent
  extent_by None = no_extent
  extent_by (Some column) = if is_pointed options rows column then extent_of rows column else no_extent

  abbrev pub field_extent : ℕ → Extent
  field_extent field = extent_by (position (shows field) places)

  -- that of each of so many fields; of none where no column is aligned by points
  abbrev pub extents_of : ℕ → List Extent
  extents_of fields = if list_any is_point options.sides.items then map field_extent (range_with_len 0 fields) else []

abbrev pub extent_at : List Extent → ℕ → Extent
extent_at extents field = slice_index_or extents field no_extent

-- ---- rows

-- a row with spaces behind its numbers
abbrev pub pointed_fields : List Extent → List Text → List Text
pointed_fields extents row = map (λ field. pointed (extent_at extents field).rest (slice_index_or row field [])) (range_with_len 0 (length row))

-- where points are below one another
abbrev pub pointed_row : List Extent → List Text → List Text
pointed_row [] row = row
pointed_row (extent ∷ extents) row = pointed_fields (extent ∷ extents) row

-- as many digits as a number of this extent takes, at least one
abbrev pub widest_number : Extent → Text
widest_number extent = repeat (max extent.whole (1 - extent.rest)) (codes "0") ++ repeat extent.rest (codes "0")

-- a row of them: so each column has room for its numbers, and for one character
abbrev pub ruler_of : List Extent → ℕ → List Text
ruler_of extents fields = map (λ field. widest_number (extent_at extents field)) (range_with_len 0 fields)

-- ---- spaces behind a number, and padding

-- By either, a column has the same longest rest.
abbrev pub RestsAgree : Type 0
RestsAgree = (rows : List (List Text)) (column : ℕ) → (extent_of rows column).rest ≡ longest_rest rows 0 column

-- a text of one line at the right of its cell, as it is, before padding of spaces without a colour
pub record IsAtRight (style : Style) (text : Text) : Type 0 where
  pub utf8 : IsUtf8 text
  pub line : lines_of text ≡ text ∷ []
  pub across : style.across ≡ Right
  pub fill : style.padding.right.fill ≡ 32
  pub color : style.padding_color.right ≡ None
  pub trimmed : style.formatting.horizontal_trim ≡ false
  pub shortened : style.formatting.vertical_trim ≡ false

-- so many columns more of padding
abbrev pub widened_style : ℕ → Style → Style
widened_style n style = record style { padding = widened_right n style.padding }

-- With the spaces that it lacks it makes the same lines of a cell as with so much more padding.
abbrev pub SpacesArePadding : Type 0
SpacesArePadding =
    (style : Style) (rest w h i : ℕ) (text : Text) → IsAtRight style text → style.padding.right.size + lacking rest text < 2 ^ 64
    → written (block_line style None (pointed rest text) w h i) ≡ written (block_line (widened_style (lacking rest text) style) None text w h i)

-- It has room in the same cells.
abbrev pub SpacesTakeAsMuchRoom : Type 0
SpacesTakeAsMuchRoom =
    (style : Style) (rest w h : ℕ) (text : Text) → IsAtRight style text → style.padding.right.size + lacking rest text < 2 ^ 64
    → cell_fits style (pointed rest text) w h ≡ cell_fits (widened_style (lacking rest text) style) text w h
