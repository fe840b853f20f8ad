use Rattle.pg_picture.specs.Grids.{bare_table}
use Rattle.pg_stream.proofs.stream.row_stream.RowStream.finish.Given as goal

abbrev pub ghosts-finish : goal.ghosts-finish
ghosts-finish g a = record { table = bare_table g.D.Dimension.width g.D.Dimension.height g.C.Colors.color a.frame.now.sheet }
