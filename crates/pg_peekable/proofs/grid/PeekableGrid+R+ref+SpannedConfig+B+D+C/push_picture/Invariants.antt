use Rattle.pg_peekable.specs.Grids.{printed_table}
use Rattle.pg_peekable.proofs.grid.PeekableGrid+R+ref+SpannedConfig+B+D+C.push_picture.Given as goal

abbrev pub ghosts-push_drawn : goal.ghosts-push_drawn
ghosts-push_drawn g a = record { table = printed_table g.R.Records g.D.Dimension g.C.Colors a.self.now }
