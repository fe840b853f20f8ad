use Rattle.pg_picture.specs.Grids.{bare_table}
use Rattle.pg_stream.proofs.printer.row_printer.RowPrinter.finish.Given as goal

abbrev pub ghosts-push_end : goal.ghosts-push_end
ghosts-push_end g a = record { table = bare_table g.D.Dimension.width g.D.Dimension.height g.C.Colors.color a.frame.now.sheet }
