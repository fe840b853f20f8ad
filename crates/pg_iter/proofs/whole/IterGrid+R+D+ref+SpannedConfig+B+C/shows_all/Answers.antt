use Rattle.std.proofs.Common.{None, ap, ◌∙◌, subst, IsOk, is_ok}
use Rattle.pg_picture.specs.Shown.{unless_unshown}
use Rattle.pg_iter.specs.IterGrids.{streamed}
use Rattle.pg_picture.proofs.FittingTables.{unshown-any_colors, unshown-empty, nothing-if-ok, shown-fits}
use Rattle.pg_iter.proofs.whole.IterGrid+R+D+ref+SpannedConfig+B+C.shows_all.Goals as goal

pub returns-clause-exact : goal.returns-clause-exact
returns-clause-exact g c = c.table_shows_all.ensures ∙ ap unless_unshown (unshown-any_colors (streamed g.R.Records g.D.Dimension g.C.Colors c.args.self.now) (λ p. None))

pub returns-clause-fits : goal.returns-clause-fits
returns-clause-fits g c = λ ok. shown-fits _ (nothing-if-ok _ (subst (λ r. IsOk r) (returns-clause-exact g c) ok))

pub returns-clause-empty : goal.returns-clause-empty
returns-clause-empty g c = λ empty. ap is_ok (returns-clause-exact g c ∙ ap unless_unshown (unshown-empty _ empty))
