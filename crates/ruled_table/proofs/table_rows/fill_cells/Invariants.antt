use Rattle.std.proofs.Common.{◌≡◌, ◌≤◌, ◌++◌, drop, length, map, min, take}
use Rattle.csv.specs.Records.{fields_of}
use Rattle.pg_fit.specs.Rows.{row_height}
use Rattle.ruled_table.specs.Shown.{shown_row}
use Rattle.ruled_table.specs.Widths.{row_within, texts_within, widths_in}
use Rattle.ruled_table.proofs.table_rows.fill_cells.Given as goal

abbrev pub invariant-loop-column : goal.invariant-loop-column
invariant-loop-column g l = record {
  many : length l.places ≤ length l.cells;
  within : l.column ≤ length l.places;
  texts : map (λ cell. cell.now) (take l.column l.cells)
      ++ texts_within (length (take l.column l.cells)) l.options.bounds.overflow (widths_in l.widths) (shown_row l.options (drop l.column l.places) (fields_of l.fields))
      ≡ row_within l.options.bounds.overflow (widths_in l.widths) (shown_row l.options l.places (fields_of l.fields));
  single : row_height (map (λ cell. cell.now) (take l.column l.cells)) ≡ min l.column 1;
}
