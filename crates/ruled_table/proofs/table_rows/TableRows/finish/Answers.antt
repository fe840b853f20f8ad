use Rattle.ruled_table.specs.Layouts.{cells_of}
use Rattle.ruled_table.proofs.RowsInParts.{even-cells}
use Rattle.ruled_table.proofs.table_rows.TableRows.finish.Goals as goal

pub returns-clause-end : goal.returns-clause-end
returns-clause-end c = λ options plan rows appended. c.finish.ensures.end plan (cells_of options plan rows) appended.drawn (even-cells options plan rows)
