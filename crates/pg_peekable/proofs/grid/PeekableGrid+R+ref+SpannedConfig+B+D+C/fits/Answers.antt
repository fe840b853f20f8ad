use Rattle.std.proofs.Common.{None, ap, ◌∙◌, subst, IsOk, is_ok}
use Rattle.pg_picture.specs.Sizes.{unless_misfit}
use Rattle.pg_peekable.specs.Grids.{printed_table}
use Rattle.pg_picture.proofs.FittingTables.{misfit-any_colors, misfit-empty, none-if-ok}
use Rattle.pg_peekable.proofs.grid.PeekableGrid+R+ref+SpannedConfig+B+D+C.fits.Goals as goal

pub returns-clause-exact : goal.returns-clause-exact
returns-clause-exact g c = c.table_fits.ensures ∙ ap unless_misfit (misfit-any_colors (printed_table g.R.Records g.D.Dimension g.C.Colors c.args.self.now) (λ p. None))

pub returns-clause-fits : goal.returns-clause-fits
returns-clause-fits g c = λ ok. none-if-ok _ (subst (λ r. IsOk r) (returns-clause-exact g c) ok)

pub returns-clause-empty : goal.returns-clause-empty
returns-clause-empty g c = λ empty. ap is_ok (returns-clause-exact g c ∙ ap unless_misfit (misfit-empty _ empty))
