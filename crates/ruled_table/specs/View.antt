-- The text of rows, as one table or as blocks of records, and why there is none.
use Rattle.std.specs.Prelude.{ℕ, List, [], ◌∷◌, ◌++◌, drop, slice_index_or, Option, None, ◌≡◌, map, ◌==◌, nat_lt, Bool, length, Some, if◌then◌else◌}
use Rattle.std.specs.List.{flat_map}
use Rattle.std.specs.Option.{option_or, option_and_then}
use Rattle.pg_layout.specs.Colors.{Color}
use Rattle.pg_layout.specs.Text.{Text}
use Rattle.pg_layout.specs.declared.position.Position.{Position}
use Rattle.pg_config.specs.Config.{Config}
use Rattle.ruled_table.specs.Columns.{places_of, pairs_of}
use Rattle.ruled_table.specs.Shown.{color_beside, look_config, shown_row, shown_text}
use Rattle.ruled_table.specs.Tables.{fault_with, text_with}
use Rattle.ruled_table.specs.declared.bounds.Bounds.{Bounds}
use Rattle.ruled_table.specs.declared.view.ViewFault.{ViewFault}
use Rattle.ruled_table.specs.declared.options.Options.{Options}
use Rattle.csv.specs.Records.{fields_of}
use Rattle.ruled_table.specs.declared.blocks.Blocks.{Blocks}
use Rattle.pg_picture.specs.Sizes.{if_fits}
use Rattle.pg_picture.specs.Table.{full_width}
use Rattle.ruled_table.specs.Arranged.{chosen_fault, chosen_rows, count_text}
use Rattle.ruled_table.specs.Layouts.{colored, first_fault, layout_fault, layout_of, table_of, whole_text, Plan, is_in_blocks}
use Rattle.ruled_table.specs.declared.options.Vertical.{Vertical}
use Rattle.ruled_table.specs.declared.options.Vertical.TheVariants.{IfOmitting}

-- ---- records as blocks: a table of two columns for each record, with a row for each field, of its name and its text

-- the block of a record with these names, and an empty line
abbrev pub block_of : Bounds → Config → (Position → Option Color) → List Text → List Text → Text
block_of bounds config color names texts = text_with bounds config color (pairs_of names texts) ++ 10 ∷ []

-- what is wrong with its sizes
abbrev pub block_fault : Bounds → Config → (Position → Option Color) → List Text → List Text → Option ViewFault
block_fault bounds config color names texts = fault_with bounds config color (pairs_of names texts)

-- of rows, of which the first has the names
module _ (options : Options) (rows : List (List Text)) where
  abbrev pub places_in : List (Option ℕ)
  places_in = places_of options.columns.items rows

  abbrev pub names_in : List Text
  names_in = shown_row options places_in (slice_index_or rows 0 [])

  -- the block of a record, and what is wrong with its sizes
  abbrev pub record_block : List Text → Text
  record_block row = block_of options.bounds (look_config options.look) (color_beside options places_in row) names_in (shown_row options places_in row)

  abbrev pub record_fault : List Text → Option ViewFault
  record_fault row = block_fault options.bounds (look_config options.look) (color_beside options places_in row) names_in (shown_row options places_in row)

  -- what is wrong with the first record of which something is
  abbrev pub records_fault : List (List Text) → Option ViewFault
  records_fault [] = None
  records_fault (row ∷ more) = option_or (record_fault row) (records_fault more)

  -- the blocks of all records
  abbrev pub blocks_text : Text
  blocks_text = flat_map record_block (drop 1 rows)

  abbrev pub blocks_fault : Option ViewFault
  blocks_fault = records_fault (drop 1 rows)

-- ---- blocks of records whose fields have names

-- those in the first of these rows, by these options
pub record HasNames (options : Options) (rows : List (List Text)) (blocks : Blocks) : Type 0 where
  pub asked : blocks.options.now ≡ options
  pub looks : blocks.config ≡ look_config options.look
  pub named : fields_of blocks.names ≡ map (shown_text options) (slice_index_or rows 0 [])
  pub at : blocks.places.items ≡ places_in options rows

-- ---- as one table

-- All rows are the first ones of their table.
abbrev pub whole_table : Options → List (List Text) → Text
whole_table options rows = whole_text options (colored options rows (layout_of options rows)) rows

-- what is wrong with it
abbrev pub whole_fault : Options → List (List Text) → Option ViewFault
whole_fault options [] = None
whole_fault options (row ∷ rows) = first_fault options (row ∷ rows)

-- ---- as one table, or as a block for each record

-- whether they are shown as blocks
abbrev pub shows_blocks : Options → List (List Text) → Bool
shows_blocks options rows = is_in_blocks options.vertical (layout_of options rows)

abbrev pub all_text : Options → List (List Text) → Text
all_text options rows = if shows_blocks options rows then blocks_text options rows else whole_table options rows

-- what is wrong with a table that is measured to see if columns are left out of it
abbrev pub measured_fault : Vertical → Options → List (List Text) → Option ViewFault
measured_fault IfOmitting options (row ∷ rows) = layout_fault options (row ∷ rows)
measured_fault vertical options rows = None

abbrev pub all_fault : Options → List (List Text) → Option ViewFault
all_fault options rows =
    option_or (measured_fault options.vertical options rows) (if shows_blocks options rows then blocks_fault options rows else whole_fault options rows)

-- how wide the lines of a table by this plan are, if that can be counted, and is more than the width that is set
abbrev pub excess_of : Option ℕ → Plan → Option ℕ
excess_of None plan = None
excess_of (Some width) plan = option_and_then (λ line. if nat_lt width line then Some line else None) (if_fits (full_width (table_of plan [])))

-- that of the table of rows; none of blocks
abbrev pub all_excess : Options → List (List Text) → Option ℕ
all_excess options rows = if length rows == 0 then None else if shows_blocks options rows then None else excess_of options.bounds.width (layout_of options rows)

-- ---- of those that are shown of an input's rows

-- and the line below that counts
abbrev pub table_text : Options → List (List Text) → Text
table_text options rows = all_text options (chosen_rows options rows) ++ count_text options rows

-- why there is none: the words for columns, or the sizes
abbrev pub table_fault : Options → List (List Text) → Option ViewFault
table_fault options rows = option_or (chosen_fault options rows) (all_fault options (chosen_rows options rows))

-- how wide its lines are, if that is more than the width that is set
abbrev pub table_excess : Options → List (List Text) → Option ℕ
table_excess options rows = all_excess options (chosen_rows options rows)
