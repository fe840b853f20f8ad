-- What is known of a table before its rows, what the first rows say of all its rows, columns that are left out, and the table of rows within it.
use Rattle.std.specs.Prelude.{ℕ, ◌+◌, ◌-◌, ◌*◌, ◌/◌, ◌%◌, ◌==◌, ◌&&◌, nat_le, nat_lt, max, min, List, [], ◌∷◌, ◌++◌, codes, decimal, drop, length, map, slice_index, sum_by, take, Option}
use Rattle.std.specs.Prelude.{Some, None, unwrap_or, if◌then◌else◌, Bool, true, false, is_none, slice_index_or}
use Rattle.std.specs.List.{position_or_len, range_with_len, list_any}
use Rattle.pg_layout.specs.Text.{Text}
use Rattle.pg_config.specs.Config.{Config, count_vertical}
use Rattle.ruled_table.specs.Columns.{told_of, column_fault, ellipsis, places_of, fields_at}
use Rattle.ruled_table.specs.Bounds.{widest_text}
use Rattle.ruled_table.specs.Shown.{look_config, color_at, shown_row}
use Rattle.ruled_table.specs.declared.bounds.Bounds.{Bounds}
use Rattle.ruled_table.specs.declared.options.Options.{Options}
use Rattle.pg_layout.specs.Colors.{Color}
use Rattle.pg_layout.specs.declared.position.Position.{Position}
use Rattle.ruled_table.specs.declared.options.Vertical.{Vertical}
use Rattle.ruled_table.specs.declared.options.Vertical.TheVariants.{Always, IfOmitting, Never}
use Rattle.pg_table.specs.declared.numbers.Extent.{Extent}
use Rattle.std.specs.Option.{option_or}
use Rattle.pg_layout.specs.Records.{text_at}
use Rattle.pg_fit.specs.Rows.{row_height}
use Rattle.pg_picture.specs.Picture.{picture}
use Rattle.pg_picture.specs.Table.{Table, Unknown}
use Rattle.pg_stream.specs.Printing.{Printing, printer}
use Rattle.pg_stream.specs.SizedStreams.{sized_misfit}
use Rattle.pg_table.specs.declared.overflow.Overflow.{Overflow}
use Rattle.ruled_table.specs.Tables.{totals_of}
use Rattle.ruled_table.specs.Sides.{extents_of, pointed_row, ruler_of}
use Rattle.ruled_table.specs.Widths.{first_config, row_within, widths_fault, widths_of}
use Rattle.ruled_table.specs.declared.view.ViewFault.{ViewFault}
use Rattle.ruled_table.specs.declared.view.ViewFault.TheVariants.{Totals}

-- ---- columns in the middle that are left out for want of room, and the column of `…` in their place

-- ---- what is left out

-- So many of a list stay: its first ones, and its last ones, of which there is one less where the number is odd. This is between them.
abbrev pub abridged : {X : Type 0} → ℕ → X → List X → List X
abridged shown sign xs = take (shown - shown / 2) xs ++ sign ∷ drop (length xs - shown / 2) xs

-- the line below the table, and a line feed
abbrev pub note_of : ℕ → ℕ → Text
note_of columns shown = decimal columns ++ (codes " columns, " ++ (decimal shown ++ (codes " shown" ++ 10 ∷ [])))

-- ---- how many stay

-- the width within which columns are left out, if they are: not where several words are each for a column of its own
abbrev pub omitting_width : Options → Option ℕ
omitting_width options = if options.is_omitting && (nat_le (length options.sides.items) 1 && nat_le (length options.bounds.limits.items) 1) then options.bounds.width else None

-- The texts of a column have room in this many terminal columns: 12, or fewer where that is their limit.
abbrev pub most_needed : Bounds → ℕ
most_needed bounds = min 12 (unwrap_or (told_of bounds.limits.items 0) 12)

-- or in as many as its widest text takes
abbrev pub needed_width : ℕ → List (List Text) → ℕ → ℕ
needed_width most rows column = min (widest_text rows column) most

abbrev pub needed_widths : ℕ → List (List Text) → ℕ → List ℕ
needed_widths most rows columns = map (needed_width most rows) (range_with_len 0 columns)

-- the columns in the order in which they get room: the first one, the last one, the second one, and so on
abbrev pub turn : ℕ → ℕ → ℕ
turn columns k = if k % 2 == 0 then k / 2 else columns - 1 - k / 2

-- of columns with texts that need this much room
module _ (config : Config) (widths : List ℕ) where
  -- a line of so many, with a space at each side of a text, beside so many columns of `…`
  abbrev pub line_of : ℕ → ℕ → ℕ
  line_of signs shown = sum_by (λ k. slice_index widths (turn (length widths) k) + 2) (range_with_len 0 shown) + 3 * signs + count_vertical config (shown + signs)

  -- how many fit within a total, at most so many
  abbrev pub fitting : ℕ → ℕ → ℕ → ℕ
  fitting total signs most = position_or_len (λ k. nat_lt total (line_of signs (k + 1))) (range_with_len 0 most)

  -- all, or those that fit beside a `…`, at least one
  abbrev pub shown_within : ℕ → ℕ
  shown_within total = if fitting total 0 (length widths) == length widths then length widths else max (fitting total 1 (length widths - 1)) 1

abbrev pub shown_by : Option ℕ → Options → List (List Text) → ℕ → ℕ
shown_by None options rows columns = columns
shown_by (Some total) options rows columns = shown_within (look_config options.look) (needed_widths (most_needed options.bounds) rows columns) total

-- how many of the columns of these rows stay
abbrev pub shown_columns : Options → List (List Text) → ℕ → ℕ
shown_columns options rows columns = shown_by (omitting_width options) options rows columns

-- ---- what is known of a table before its rows

-- the columns by their places in a row, what the table looks like, how wide its columns are, the line below it, the extents
-- of fields whose points are below one another, and the colours of its texts
pub record Plan : Type 0 where
  pub places : List (Option ℕ)
  pub config : Config
  pub width : ℕ → ℕ
  pub note : Text
  pub extents : List Extent
  pub color : Position → Option Color

-- without colours
abbrev pub plan_of : List (Option ℕ) → Config → (ℕ → ℕ) → Text → List Extent → Plan
plan_of places config width note extents = record { places = places; config = config; width = width; note = note; extents = extents; color = λ place. None }

abbrev pub with_colors : (Position → Option Color) → Plan → Plan
with_colors color plan = record plan { color = color }

-- whether columns are left out, so that there is one of `…`
abbrev pub leaves_columns_out : Plan → Bool
leaves_columns_out plan = list_any is_none plan.places

abbrev pub is_always : Vertical → Bool
is_always Never = false
is_always IfOmitting = false
is_always Always = true

-- whether rows are shown as blocks in place of their table
abbrev pub is_in_blocks : Vertical → Plan → Bool
is_in_blocks Never plan = false
is_in_blocks IfOmitting plan = leaves_columns_out plan
is_in_blocks Always plan = true

-- the same without colours, with the widths in a list
pub record Measures : Type 0 where
  pub places : List (Option ℕ)
  pub config : Config
  pub widths : List ℕ
  pub note : Text
  pub extents : List Extent

abbrev pub plan_in : Measures → Plan
plan_in measures = plan_of measures.places measures.config (λ column. slice_index_or measures.widths column 0) measures.note measures.extents

-- ---- what the first rows say

-- Fields in columns with these places, the texts that are shown of them, with a row below that isn't drawn, the extents of the fields, and the line below their table.
-- All columns are drawn.
module _ (options : Options) (extents : List Extent) (places : List (Option ℕ)) (note : Text) (fields measured : List (List Text)) where
  abbrev pub config_by : Config
  config_by = first_config options fields

  abbrev pub plan_by : Plan
  plan_by = plan_of places config_by (widths_of options config_by fields measured) note extents

-- their sizes are too large
abbrev pub plan_fault : Options → List (List Text) → List (List Text) → Option ViewFault
plan_fault options fields measured = totals_of (widths_fault options (first_config options fields) fields measured)

-- Of such columns those in the middle are left out where they have no room, and a `…` is in their place.
module _ (options : Options) (places : List (Option ℕ)) (fields measured : List (List Text)) where
  abbrev pub shown_in : ℕ
  shown_in = shown_columns options measured (length places)

  abbrev pub layout_by : List Extent → Plan
  layout_by extents =
      if nat_lt shown_in (length places)
      then plan_by options extents (abridged shown_in None places) (note_of (length places) shown_in) (map (abridged shown_in ellipsis) fields) (map (abridged shown_in ellipsis) measured)
      else plan_by options extents places [] fields measured

  abbrev pub sizes_fault_by : Option ViewFault
  sizes_fault_by =
      if nat_lt shown_in (length places)
      then plan_fault options (map (abridged shown_in ellipsis) fields) (map (abridged shown_in ellipsis) measured)
      else plan_fault options fields measured

module _ (options : Options) (first : List (List Text)) where
  abbrev pub places_in : List (Option ℕ)
  places_in = places_of options.columns.items first

  -- the fields of the first rows
  abbrev pub fields_in : List (List Text)
  fields_in = map (fields_at places_in) first

  -- the texts that are shown of them
  abbrev pub texts_in : List (List Text)
  texts_in = map (shown_row options places_in) first

  -- the extents of their fields
  abbrev pub extents_in : List Extent
  extents_in = extents_of options places_in fields_in (length (slice_index_or first 0 []))

  -- with a ruler below them
  abbrev pub measured_in : List (List Text)
  measured_in = texts_in ++ fields_at places_in (ruler_of extents_in (length (slice_index_or first 0 []))) ∷ []

  abbrev pub layout_of : Plan
  layout_of = layout_by options places_in fields_in measured_in extents_in

  -- no column has one of the names, or their sizes are too large
  abbrev pub layout_fault : Option ViewFault
  layout_fault = option_or (column_fault options.columns.items first) (sizes_fault_by options places_in fields_in measured_in)

-- ---- the table of rows

-- a plan with the colours of the texts of these rows; those of other rows have none, but for a header
abbrev pub colored : Options → List (List Text) → Plan → Plan
colored options rows plan = with_colors (color_at options plan.places rows) plan

-- the cells of rows: their texts within their columns
abbrev pub cells_within : Overflow → Plan → List (List Text) → List (List Text)
cells_within overflow plan texts = map (row_within overflow plan.width) texts

-- each row is as high as its highest cell
abbrev pub heights_of : List (List Text) → ℕ → ℕ
heights_of cells row = row_height (slice_index_or cells row [])

-- the table of these cells
abbrev pub table_of : Plan → List (List Text) → Table
table_of plan cells = record {
  config = plan.config;
  rows = length cells;
  columns = length plan.places;
  width = plan.width;
  height = heights_of cells;
  text = text_at cells;
  color = plan.color;
}

-- its picture, a line feed, and the line below it; of no rows nothing
abbrev pub whole_of : Plan → List (List Text) → Text
whole_of plan cells = if length cells == 0 then [] else picture Unknown (table_of plan cells) ++ 10 ∷ plan.note

module _ (options : Options) (plan : Plan) (rows : List (List Text)) where
  -- the texts that are shown of rows, and their cells
  abbrev pub texts_by : List (List Text)
  texts_by = map (shown_row options plan.places) (map (pointed_row plan.extents) rows)

  abbrev pub cells_of : List (List Text)
  cells_of = cells_within options.bounds.overflow plan texts_by

  -- the text of their table
  abbrev pub whole_text : Text
  whole_text = whole_of plan cells_of

-- ---- faults

-- before its first row, by these heights
abbrev pub start_of : Plan → (ℕ → ℕ) → Printing
start_of plan heights = printer plan.config (length plan.places) plan.width heights plan.color None

-- there is no column, or the width of all together is too large
abbrev pub start_fault : Plan → Option ViewFault
start_fault plan = if is_none (sized_misfit (start_of plan (λ row. 0))) then None else Some Totals

-- what is wrong with the first rows
abbrev pub first_fault : Options → List (List Text) → Option ViewFault
first_fault options first = option_or (layout_fault options first) (start_fault (layout_of options first))
