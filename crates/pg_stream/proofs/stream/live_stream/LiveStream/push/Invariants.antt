use Rattle.pg_picture.specs.Grids.{bare_table}
use Rattle.pg_stream.proofs.stream.live_stream.LiveStream.push.Given as goal

abbrev pub ghosts-push_cells : goal.ghosts-push_cells
ghosts-push_cells g a = record { table = bare_table g.D.Dimension.width g.D.Dimension.height g.C.Colors.color a.frame.now.sheet }
