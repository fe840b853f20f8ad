use Rattle.std.proofs.Common.{◌≡◌, ◌==◌, ◌||◌, None, Some, false, sym, ap, ◌∙◌, arith}
use Rattle.std.proofs.lemmas.Bool.Decides.{nat_tests}
use Rattle.pg_config.specs.CompactConfig.{settings_of}
use Rattle.pg_picture.specs.Fits.{compact_misfit_of}
use Rattle.pg_picture.specs.Shown.{compact_table_of, unless_unshown, misfit_or_cell}
use Rattle.pg_picture.proofs.FittingTables.{none-of-ok}
use Rattle.pg_picture.proofs.FirstPlaces.{misfit_told, compact_misfit-texts, compact_unshown_of-misfit, compact_unshown_of-cell}
use Rattle.pg_picture.proofs.shown.compact.compact_shows_all.Goals as goal

pub returns-in-Err : goal.returns-in-Err
returns-in-Err g c =
    let t = compact_table_of (settings_of c.args.config.now) (g.D.Dimension.width c.args.dimension.now) (g.R.Records.texts c.args.records.now) (g.R.Records.columns c.args.records.now) in
    let size : ((t.rows == 0) || (t.columns == 0)) ≡ false = grind (arith, nat_tests, c.if-rows-eq0.false, c.if-columns-eq0.false, c.count_rows-rows.ensures, c.count_columns-columns.ensures.value) in
    let misfit : compact_misfit_of t ≡ Some c.in-Err.misfit = compact_misfit-texts t c.count_columns-columns.result c.count_columns-columns.ensures.value ∙ misfit_told _ c.in-Err.misfit (sym c.in-Err.is ∙ c.compact_fits.ensures) in
    ap (λ u. unless_unshown u) (sym (compact_unshown_of-misfit t c.in-Err.misfit size misfit))

pub returns-in-Some : goal.returns-in-Some
returns-in-Some g c =
    let t = compact_table_of (settings_of c.args.config.now) (g.D.Dimension.width c.args.dimension.now) (g.R.Records.texts c.args.records.now) (g.R.Records.columns c.args.records.now) in
    let size : ((t.rows == 0) || (t.columns == 0)) ≡ false = grind (arith, nat_tests, c.if-rows-eq0.false, c.if-columns-eq0.false, c.count_rows-rows.ensures, c.count_columns-columns.ensures.value) in
    let none : compact_misfit_of t ≡ None = compact_misfit-texts t c.count_columns-columns.result c.count_columns-columns.ensures.value ∙ none-of-ok _ (sym c.compact_fits.ensures ∙ c.in_default.is) in
    ap (λ cell. unless_unshown (misfit_or_cell None cell)) (sym c.in-Some.is ∙ c.first_of_lines.ensures) ∙ ap (λ u. unless_unshown u) (sym (compact_unshown_of-cell t size none))

pub returns-in-None : goal.returns-in-None
returns-in-None g c =
    let t = compact_table_of (settings_of c.args.config.now) (g.D.Dimension.width c.args.dimension.now) (g.R.Records.texts c.args.records.now) (g.R.Records.columns c.args.records.now) in
    let size : ((t.rows == 0) || (t.columns == 0)) ≡ false = grind (arith, nat_tests, c.if-rows-eq0.false, c.if-columns-eq0.false, c.count_rows-rows.ensures, c.count_columns-columns.ensures.value) in
    let none : compact_misfit_of t ≡ None = compact_misfit-texts t c.count_columns-columns.result c.count_columns-columns.ensures.value ∙ none-of-ok _ (sym c.compact_fits.ensures ∙ c.in_default.is) in
    ap (λ cell. unless_unshown (misfit_or_cell None cell)) (sym c.in-None.is ∙ c.first_of_lines.ensures) ∙ ap (λ u. unless_unshown u) (sym (compact_unshown_of-cell t size none))
