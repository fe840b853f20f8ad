use Rattle.pg_picture.specs.Grids.{bare_table}
use Rattle.pg_stream.proofs.stream.live_stream.LiveStream.push_lent.Given as goal

abbrev pub ghosts-push_single : goal.ghosts-push_single
ghosts-push_single g a = record { table = bare_table g.D.Dimension.width g.D.Dimension.height g.C.Colors.color a.frame.now.sheet }
