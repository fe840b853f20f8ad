use Rattle.std.proofs.Common.{◌≡◌, ◌==◌, true, ap, ◌∙◌, is_ok, arith}
use Rattle.std.proofs.lemmas.Bool.Decides.{nat_tests}
use Rattle.pg_picture.specs.CompactLines.{compact_sized}
use Rattle.pg_picture.specs.Fits.{compact_misfit_of}
use Rattle.pg_picture.specs.Sizes.{unless_misfit}
use Rattle.pg_compact.specs.CompactGrids.{compact_table}
use Rattle.pg_compact.proofs.CompactPictures.{no_columns-fit}
use Rattle.pg_compact.proofs.grid.CompactGrid+R+D+ref+CompactConfig+C.fits.Goals as goal

-- where there are rows, an empty table has no columns
pub returns-clause-empty : goal.returns-clause-empty
returns-clause-empty g c = λ empty.
    let t = compact_table g.R.Records.texts g.R.Records.columns g.D.Dimension.width g.C.Colors.color c.args.self.now in
    let none : (t.columns == 0) ≡ true = grind (arith, nat_tests, empty) in
    ap is_ok
    (c.compact_fits.ensures
    ∙ ap (λ columns. unless_misfit (compact_misfit_of (compact_sized t.config t.width columns))) c.count_columns.ensures.value
    ∙ ap unless_misfit (no_columns-fit t none))
