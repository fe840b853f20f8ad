-- The table that a script tells of, and what a mode prints of it.
use Rattle.std.specs.Prelude.{◌≡◌, ◌↔◌, ℕ, ◌==◌, List, length, slice_index_or, Option, Some, None, Result, Err, String, if◌then◌else◌}
use Rattle.pg_layout.specs.Text.{Text}
use Rattle.pg_layout.specs.Colors.{Color}
use Rattle.pg_layout.specs.ColorsMap.{color_at}
use Rattle.pg_layout.specs.Looks.{ascii}
use Rattle.pg_layout.specs.declared.position.Position.{Position}
use Rattle.pg_layout.specs.Records.{columns_of, text_at}
use Rattle.pg_layout.specs.declared.position.Entity.TheVariants.{Global}
use Rattle.pg_config.specs.Config.{Config, default_config}
use Rattle.pg_config.specs.CompactConfig.{CompactSettings, compact_of}
use Rattle.pg_config.specs.Settings.{with_setting}
use Rattle.pg_picture.specs.Appending.{Appends, AppendsOrNothing}
use Rattle.pg_picture.specs.CompactLines.{CompactTable}
use Rattle.pg_picture.specs.Fits.{misfit_of, compact_misfit_of}
use Rattle.pg_picture.specs.Picture.{picture, compact_picture}
use Rattle.pg_picture.specs.Table.{Table, Known}
use Rattle.pg_picture.specs.declared.fits.Misfit.{Misfit}
use Rattle.pg_picture.specs.declared.fits.Misfit.TheVariants.{Spans, Totals}
use Rattle.pg_table.specs.Natural.{natural_table}
use Rattle.pg_script.specs.Told.{Told}
use Rattle.pg_show.specs.declared.mode.Mode.{Mode}
use Rattle.pg_show.specs.declared.mode.Mode.TheVariants as mode
use Rattle.pg_picture.specs.declared.fault.PrintFault.{PrintFault}
use Rattle.pg_picture.specs.declared.fault.PrintFault.TheVariants as print
use Rattle.pg_table.specs.declared.fault.TableFault.{TableFault}
use Rattle.pg_table.specs.declared.fault.TableFault.TheVariants as table

-- the table of these settings, widths and heights, texts of so many columns, and colours
abbrev pub table_with : Config → List ℕ → List ℕ → List (List Text) → ℕ → List (Position × Color) → Table
table_with config widths heights texts columns colors = record {
  config = config;
  rows = length texts;
  columns = columns;
  width = λ column. slice_index_or widths column 0;
  height = λ row. slice_index_or heights row 0;
  text = text_at texts;
  color = λ place. color_at place colors;
}

-- the compact table of these settings, widths, texts of so many columns, and colours
abbrev pub compact_table_with : CompactSettings → List ℕ → List (List Text) → ℕ → List (Position × Color) → CompactTable
compact_table_with config widths texts columns colors = record {
  config = config;
  rows = length texts;
  columns = columns;
  width = λ column. slice_index_or widths column 0;
  text = text_at texts;
  color = λ place. color_at place colors;
}

-- the table of what was told, with as many columns as its first row has texts
abbrev pub table_of_told : Told → Table
table_of_told told = table_with told.config told.widths told.heights told.texts (columns_of told.texts) told.colors

-- the compact table of it: no heights are used, and of the settings those that a compact table has
abbrev pub compact_table_of_told : Told → CompactTable
compact_table_of_told told = compact_table_with (compact_of told.config) told.widths told.texts (columns_of told.texts) told.colors

-- what a table at its natural sizes is told: ASCII borders, and the padding and the alignment that were told of all cells
abbrev pub natural_config : Config → Config
natural_config told = record default_config {
  borders = ascii;
  padding = with_setting Global (compact_of told).padding default_config.padding;
  alignment_horizontal = with_setting Global (compact_of told).alignment default_config.alignment_horizontal;
}

-- the texts at their natural sizes, without colours
abbrev pub natural_table_of_told : Told → Table
natural_table_of_told told = natural_table (natural_config told.config) told.texts (columns_of told.texts) (λ place. None)

-- what doesn't fit in the table, as a mode prints it; a compact table with no rows fits
abbrev pub misfit_in : Mode → Told → Option Misfit
misfit_in mode.Compact told = if length told.texts == 0 then None else compact_misfit_of (compact_table_of_told told)
misfit_in mode.Iter told = misfit_of (table_of_told told)
misfit_in mode.Peek told = misfit_of (table_of_told told)
misfit_in mode.Table told = misfit_of (natural_table_of_told told)

-- the table's text, as a mode prints it; rows that are read once tell how many they are
abbrev pub text_in : Mode → Told → Text
text_in mode.Compact told = compact_picture (compact_table_of_told told)
text_in mode.Iter told = picture Known (table_of_told told)
text_in mode.Peek told = picture Known (table_of_told told)
text_in mode.Table told = picture Known (natural_table_of_told told)

-- A buffer gains a text, as a mode prints it. Where rows are read once, and where sizes are worked out, memory may also be refused
-- before the first byte, whatever room the buffer has.
abbrev pub Prints : {Z U E : Type 0} → Mode → String Z → String Z → Result U E → Text → Type 0
Prints mode.Compact old new result text = Appends old new result text
Prints mode.Iter old new result text = AppendsOrNothing old new result text
Prints mode.Peek old new result text = Appends old new result text
Prints mode.Table old new result text = AppendsOrNothing old new result text

-- The table of what was told is shown, as a mode prints it: what doesn't fit is answered, and the buffer is as it was, or else the
-- buffer gains the text.
pub record Shows {Z U : Type 0} (mode : Mode) (told : Told) (old new : String Z) (result : Result U PrintFault) : Type 0 where
  pub misfit : (m : Misfit) → (result ≡ Err (print.Misfit m)) ↔ (misfit_in mode told ≡ Some m)
  pub kept : (m : Misfit) → result ≡ Err (print.Misfit m) → new ≡ old
  pub printed : misfit_in mode told ≡ None → Prints mode old new result (text_in mode told)

-- the fault of a script's table at its natural sizes; the rows of a script are of one length
abbrev pub fault_of_table : TableFault → PrintFault
fault_of_table table.Spans = print.Misfit Spans
fault_of_table table.Totals = print.Misfit Totals
fault_of_table (table.Ragged row) = print.Misfit Totals
fault_of_table table.Memory = print.Memory
