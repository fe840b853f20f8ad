use Rattle.std.proofs.Common.{None, ap, ◌∙◌, subst, IsOk, is_ok}
use Rattle.pg_picture.specs.Shown.{unless_unshown}
use Rattle.pg_picture.proofs.FittingTables.{compact_unshown-any_colors, compact_unshown-empty, nothing-if-ok}
use Rattle.pg_compact.specs.CompactGrids.{compact_table}
use Rattle.pg_compact.proofs.CompactPictures.{shown-fits}
use Rattle.pg_compact.proofs.whole.CompactGrid+R+D+ref+CompactConfig+C.shows_all.Goals as goal

pub returns-clause-exact : goal.returns-clause-exact
returns-clause-exact g c = c.compact_shows_all.ensures ∙ ap unless_unshown (compact_unshown-any_colors (compact_table g.R.Records.texts g.R.Records.columns g.D.Dimension.width g.C.Colors.color c.args.self.now) (λ p. None))

pub returns-clause-fits : goal.returns-clause-fits
returns-clause-fits g c = λ ok. shown-fits _ (nothing-if-ok _ (subst (λ r. IsOk r) (returns-clause-exact g c) ok))

pub returns-clause-empty : goal.returns-clause-empty
returns-clause-empty g c = λ empty. ap is_ok (returns-clause-exact g c ∙ ap unless_unshown (compact_unshown-empty _ empty))
