use Rattle.std.proofs.Common.{◌≡◌, ◌<◌, ◌==◌, ◌||◌, None, Some, false, sym, ap, ◌∙◌, arith}
use Rattle.std.proofs.lemmas.Bool.Decides.{nat_tests}
use Rattle.pg_picture.specs.Fits.{misfit_of}
use Rattle.pg_picture.specs.Shown.{owner_shows_all, unless_unshown, misfit_or_cell}
use Rattle.pg_picture.specs.Sizes.{table_of}
use Rattle.pg_picture.proofs.FittingTables.{none-of-ok}
use Rattle.pg_picture.proofs.FirstPlaces.{fits, misfit_told, unshown_of-misfit, unshown_of-cell}
use Rattle.pg_picture.proofs.shown.table.table_shows_all.Goals as goal

pub returns-in-Some : goal.returns-in-Some
unfolding owner_shows_all
returns-in-Some g c =
    let t = table_of c.args.config.now (g.D.Dimension.width c.args.dimension.now) (g.D.Dimension.height c.args.dimension.now) (g.R.Records.texts c.args.records.now) (g.R.Records.columns c.args.records.now) in
    let size : ((t.rows == 0) || (t.columns == 0)) ≡ false = grind (arith, nat_tests, c.if-rows-eq0.false, c.if-columns-eq0.false, c.count_rows-rows.ensures, c.count_columns-columns.ensures.value) in
    let none : misfit_of t ≡ None = none-of-ok (misfit_of t) (sym c.in_ok-table_fits.ensures) in
    ap (λ cell. unless_unshown (misfit_or_cell None cell)) (sym c.in-Some.is ∙ c.first_failing.ensures) ∙ ap (λ u. unless_unshown u) (sym (unshown_of-cell t size none))

pub returns-in-None : goal.returns-in-None
unfolding owner_shows_all
returns-in-None g c =
    let t = table_of c.args.config.now (g.D.Dimension.width c.args.dimension.now) (g.D.Dimension.height c.args.dimension.now) (g.R.Records.texts c.args.records.now) (g.R.Records.columns c.args.records.now) in
    let size : ((t.rows == 0) || (t.columns == 0)) ≡ false = grind (arith, nat_tests, c.if-rows-eq0.false, c.if-columns-eq0.false, c.count_rows-rows.ensures, c.count_columns-columns.ensures.value) in
    let none : misfit_of t ≡ None = none-of-ok (misfit_of t) (sym c.in_ok-table_fits.ensures) in
    ap (λ cell. unless_unshown (misfit_or_cell None cell)) (sym c.in-None.is ∙ c.first_failing.ensures) ∙ ap (λ u. unless_unshown u) (sym (unshown_of-cell t size none))

pub invariant_of-table : goal.invariant_of-table
invariant_of-table g c =
    let t = table_of c.args.config.now (g.D.Dimension.width c.args.dimension.now) (g.D.Dimension.height c.args.dimension.now) (g.R.Records.texts c.args.records.now) (g.R.Records.columns c.args.records.now) in
    let rows : 0 < t.rows = grind (arith, nat_tests, c.if-rows-eq0.false, c.count_rows-rows.ensures) in
    let columns : 0 < t.columns = grind (arith, nat_tests, c.if-columns-eq0.false, c.count_columns-columns.ensures.value) in
    let fit = fits t (none-of-ok (misfit_of t) (sym c.in_ok-table_fits.ensures)) rows columns in
    record { spans = fit.spans; totals = fit.totals }
