use Rattle.pg_picture.specs.Grids.{bare_table}
use Rattle.pg_stream.proofs.printer.row_printer.RowPrinter.close.Given as goal

abbrev pub ghosts-close : goal.ghosts-close
ghosts-close g a = record { table = bare_table g.D.Dimension.width g.D.Dimension.height g.C.Colors.color a.frame.now.sheet }
