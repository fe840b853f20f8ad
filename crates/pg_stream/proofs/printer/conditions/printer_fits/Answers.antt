use Rattle.std.proofs.Common.{◌<◌, ◌-◌, ◌^◌, sym, ap, ◌∙◌, arith, Some, None}
use Rattle.pg_picture.specs.Sizes.{unless_misfit}
use Rattle.pg_stream.proofs.printer.MakingPrinters.{found-columns, found-spans, found-width, found-rest, rest-spans, rest-totals, rest-none, fits-told}
use Rattle.pg_stream.proofs.printer.conditions.printer_fits.Goals as goal
use Rattle.pg_stream.proofs.printer.conditions.printer_fits.Goals.{then-columns-eq0-via-then-columns-eq0, then-columns-eq0-via-else-columns-eq0+then-columns-eq18446744073709551615}

pub returns-then-columns-eq0-clause-exact : goal.returns-then-columns-eq0-clause-exact
returns-then-columns-eq0-clause-exact g c =
    found-columns c.args.config.now c.args.columns (g.D.Dimension.width c.args.dimension.now) (g.D.Dimension.height c.args.dimension.now) (g.C.Colors.color c.args.colors.now) c.args.hint
    (λ some few. elim c.then-columns-eq0.branch [
      | then-columns-eq0-via-then-columns-eq0 w ↦ omega (arith, w.if-columns-eq0.true, some)
      | then-columns-eq0-via-else-columns-eq0+then-columns-eq18446744073709551615 w ↦ omega (arith, w.if-columns-eq18446744073709551615.true, few)
    ])

pub returns-then-columns-eq0-clause-fits : goal.returns-then-columns-eq0-clause-fits
returns-then-columns-eq0-clause-fits g c = fits-told _ _ (returns-then-columns-eq0-clause-exact g c)

pub returns-then-not-spans_fit_columns-clause-exact : goal.returns-then-not-spans_fit_columns-clause-exact
returns-then-not-spans_fit_columns-clause-exact g c =
    let some : 0 < c.args.columns = omega (arith, c.if-columns-eq0.false) in
    let few : c.args.columns < 2 ^ 64 - 1 = omega (arith, c.if-columns-eq18446744073709551615.false, c.ranges.columns.fits) in
    found-spans _ _ _ _ _ some few c.args.hint _ c.spans_fit_columns.ensures c.if-not-spans_fit_columns.true

pub returns-then-not-spans_fit_columns-clause-fits : goal.returns-then-not-spans_fit_columns-clause-fits
returns-then-not-spans_fit_columns-clause-fits g c = fits-told _ _ (returns-then-not-spans_fit_columns-clause-exact g c)

pub returns-in_default-clause-exact : goal.returns-in_default-clause-exact
returns-in_default-clause-exact g c =
    let some : 0 < c.args.columns = omega (arith, c.if-columns-eq0.false) in
    let few : c.args.columns < 2 ^ 64 - 1 = omega (arith, c.if-columns-eq18446744073709551615.false, c.ranges.columns.fits) in
    found-width _ _ _ _ _ some few _ c.spans_fit_columns.ensures c.if-not-spans_fit_columns.false _ c.full_width.ensures c.args.hint c.in_default.is

pub returns-in_default-clause-fits : goal.returns-in_default-clause-fits
returns-in_default-clause-fits g c = fits-told _ _ (returns-in_default-clause-exact g c)

pub returns-in_default-hint-clause-exact : goal.returns-in_default-hint-clause-exact
returns-in_default-hint-clause-exact g c =
    let some : 0 < c.args.columns = omega (arith, c.if-columns-eq0.false) in
    let few : c.args.columns < 2 ^ 64 - 1 = omega (arith, c.if-columns-eq18446744073709551615.false, c.ranges.columns.fits) in
    let rest = found-rest c.args.config.now c.args.columns (g.D.Dimension.width c.args.dimension.now) (g.D.Dimension.height c.args.dimension.now) (g.C.Colors.color c.args.colors.now) some few _ c.spans_fit_columns.ensures c.if-not-spans_fit_columns.false _ c.full_width.ensures c.in-Some.field-0 c.in-Some.is None in
    rw c.in_default-hint.is (ap unless_misfit (sym rest))

pub returns-in_default-hint-clause-fits : goal.returns-in_default-hint-clause-fits
returns-in_default-hint-clause-fits g c = fits-told _ _ (returns-in_default-hint-clause-exact g c)

pub returns-then-not-spans_fit-clause-exact : goal.returns-then-not-spans_fit-clause-exact
returns-then-not-spans_fit-clause-exact g c =
    let some : 0 < c.args.columns = omega (arith, c.if-columns-eq0.false) in
    let few : c.args.columns < 2 ^ 64 - 1 = omega (arith, c.if-columns-eq18446744073709551615.false, c.ranges.columns.fits) in
    let rest = found-rest c.args.config.now c.args.columns (g.D.Dimension.width c.args.dimension.now) (g.D.Dimension.height c.args.dimension.now) (g.C.Colors.color c.args.colors.now) some few _ c.spans_fit_columns.ensures c.if-not-spans_fit_columns.false _ c.full_width.ensures c.in-Some.field-0 c.in-Some.is (Some c.in-Some-hint.rows) in
    rw c.in-Some-hint.is (ap unless_misfit (sym (rest ∙ rest-spans _ _ _ _ _ c.in-Some-hint.rows _ c.spans_fit.ensures c.if-not-spans_fit.true)))

pub returns-then-not-spans_fit-clause-fits : goal.returns-then-not-spans_fit-clause-fits
returns-then-not-spans_fit-clause-fits g c = fits-told _ _ (returns-then-not-spans_fit-clause-exact g c)

pub returns-then-not-totals_fit-clause-exact : goal.returns-then-not-totals_fit-clause-exact
returns-then-not-totals_fit-clause-exact g c =
    let some : 0 < c.args.columns = omega (arith, c.if-columns-eq0.false) in
    let few : c.args.columns < 2 ^ 64 - 1 = omega (arith, c.if-columns-eq18446744073709551615.false, c.ranges.columns.fits) in
    let rest = found-rest c.args.config.now c.args.columns (g.D.Dimension.width c.args.dimension.now) (g.D.Dimension.height c.args.dimension.now) (g.C.Colors.color c.args.colors.now) some few _ c.spans_fit_columns.ensures c.if-not-spans_fit_columns.false _ c.full_width.ensures c.in-Some.field-0 c.in-Some.is (Some c.in-Some-hint.rows) in
    rw c.in-Some-hint.is (ap unless_misfit (sym (rest ∙ rest-totals _ _ _ _ _ c.in-Some-hint.rows _ c.spans_fit.ensures c.if-not-spans_fit.false _ c.totals_fit.ensures c.if-not-totals_fit.true)))

pub returns-then-not-totals_fit-clause-fits : goal.returns-then-not-totals_fit-clause-fits
returns-then-not-totals_fit-clause-fits g c = fits-told _ _ (returns-then-not-totals_fit-clause-exact g c)

pub returns-clause-exact : goal.returns-clause-exact
returns-clause-exact g c =
    let some : 0 < c.args.columns = omega (arith, c.if-columns-eq0.false) in
    let few : c.args.columns < 2 ^ 64 - 1 = omega (arith, c.if-columns-eq18446744073709551615.false, c.ranges.columns.fits) in
    let rest = found-rest c.args.config.now c.args.columns (g.D.Dimension.width c.args.dimension.now) (g.D.Dimension.height c.args.dimension.now) (g.C.Colors.color c.args.colors.now) some few _ c.spans_fit_columns.ensures c.if-not-spans_fit_columns.false _ c.full_width.ensures c.in-Some.field-0 c.in-Some.is (Some c.in-Some-hint.rows) in
    rw c.in-Some-hint.is (ap unless_misfit (sym (rest ∙ rest-none _ _ _ _ _ c.in-Some-hint.rows _ c.spans_fit.ensures c.if-not-spans_fit.false _ c.totals_fit.ensures c.if-not-totals_fit.false)))

pub returns-clause-fits : goal.returns-clause-fits
returns-clause-fits g c = fits-told _ _ (returns-clause-exact g c)
