use Rattle.pg_picture.specs.Grids.{bare_table}
use Rattle.pg_stream.proofs.printer.row_printer.RowPrinter.print_rows.Given as goal

abbrev pub ghosts-push_rows : goal.ghosts-push_rows
ghosts-push_rows g a = record { table = bare_table g.D.Dimension.width g.D.Dimension.height g.C.Colors.color a.frame.now.sheet }
