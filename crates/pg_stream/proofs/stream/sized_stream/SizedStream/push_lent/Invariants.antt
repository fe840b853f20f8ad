use Rattle.pg_stream.specs.Inside.{height_in}
use Rattle.pg_picture.specs.Grids.{bare_table}
use Rattle.pg_stream.proofs.stream.sized_stream.SizedStream.push_lent.Given as goal

abbrev pub ghosts-push_single : goal.ghosts-push_single
ghosts-push_single g a = record { table = bare_table (λ sizes. g.D.Dimension.width sizes.widths.now) (λ sizes. height_in sizes.row sizes.height sizes.above) g.C.Colors.color a.frame.now.sheet }
