use Rattle.std.proofs.Common.{◌≡◌, ◌++◌, drop, length, map}
use Rattle.std.specs.Cow.{cow_str_bytes}
use Rattle.csv.specs.Records.{fields_of}
use Rattle.ruled_table.specs.Shown.{shown_row}
use Rattle.ruled_table.specs.Widths.{row_within, texts_within, widths_in}
use Rattle.ruled_table.proofs.table_rows.cells_shown.Given as goal

abbrev pub invariant-loop-place : goal.invariant-loop-place
invariant-loop-place l =
    map cow_str_bytes l.cells.items
    ++ texts_within (length l.cells.items) l.options.bounds.overflow (widths_in l.widths) (shown_row l.options (drop l.place-index l.places) (fields_of l.fields))
    ≡ row_within l.options.bounds.overflow (widths_in l.widths) (shown_row l.options l.places (fields_of l.fields))
