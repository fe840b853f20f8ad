use Rattle.std.proofs.Common.{◌≡◌, ◌==◌, ◌||◌, true, false, Option, sym, ap, ◌∙◌, arith}
use Rattle.std.specs.Option.{option_map}
use Rattle.pg_layout.specs.declared.position.Position.{Position}
use Rattle.std.proofs.lemmas.Bool.Decides.{nat_tests}
use Rattle.pg_picture.specs.Fits.{spans_fit, totals_fit}
use Rattle.pg_picture.specs.Sizes.{table_of, sized, unless_misfit}
use Rattle.pg_picture.proofs.FittingTables.{totals_fit-sized}
use Rattle.pg_picture.proofs.FirstPlaces.{room_of, misfit_of-totals, misfit_of-rooms}
use Rattle.pg_picture.proofs.fits.table.table_fits.Goals as goal

pub returns-then-not-totals_fit : goal.returns-then-not-totals_fit
returns-then-not-totals_fit g c =
    let t = table_of c.args.config.now (g.D.Dimension.width c.args.dimension.now) (g.D.Dimension.height c.args.dimension.now) (g.R.Records.texts c.args.records.now) (g.R.Records.columns c.args.records.now) in
    let size : ((t.rows == 0) || (t.columns == 0)) ≡ false = grind (arith, nat_tests, c.if-rows-eq0.false, c.if-columns-eq0.false, c.count_rows-rows.ensures, c.count_columns-columns.ensures.value) in
    let spans : spans_fit t.config.spans t.rows t.columns ≡ true = (rw (c.count_rows-rows.ensures, c.count_columns-columns.ensures.value) at (sym c.spans_fit.ensures ∙ c.if-not-spans_fit.false)) in
    let answer : totals_fit (sized t.config t.width t.height c.count_rows-rows.result c.count_columns-columns.result) ≡ false = sym c.totals_fit.ensures ∙ c.if-not-totals_fit.true in
    let totals : totals_fit t ≡ false = sym (totals_fit-sized t) ∙ (rw (c.count_rows-rows.ensures, c.count_columns-columns.ensures.value) at answer) in
    ap (λ o. unless_misfit o) (sym (misfit_of-totals t size spans totals))

pub invariant_of-table : goal.invariant_of-table
invariant_of-table g c =
    let t = table_of c.args.config.now (g.D.Dimension.width c.args.dimension.now) (g.D.Dimension.height c.args.dimension.now) (g.R.Records.texts c.args.records.now) (g.R.Records.columns c.args.records.now) in
    let spans : spans_fit t.config.spans t.rows t.columns ≡ true = (rw (c.count_rows-rows.ensures, c.count_columns-columns.ensures.value) at (sym c.spans_fit.ensures ∙ c.if-not-spans_fit.false)) in
    let answer : totals_fit (sized t.config t.width t.height c.count_rows-rows.result c.count_columns-columns.result) ≡ true = sym c.totals_fit.ensures ∙ c.if-not-totals_fit.false in
    let totals : totals_fit t ≡ true = sym (totals_fit-sized t) ∙ (rw (c.count_rows-rows.ensures, c.count_columns-columns.ensures.value) at answer) in
    record { spans = spans; totals = totals }

pub returns-in-Some : goal.returns-in-Some
returns-in-Some g c =
    let t = table_of c.args.config.now (g.D.Dimension.width c.args.dimension.now) (g.D.Dimension.height c.args.dimension.now) (g.R.Records.texts c.args.records.now) (g.R.Records.columns c.args.records.now) in
    let size : ((t.rows == 0) || (t.columns == 0)) ≡ false = grind (arith, nat_tests, c.if-rows-eq0.false, c.if-columns-eq0.false, c.count_rows-rows.ensures, c.count_columns-columns.ensures.value) in
    let spans : spans_fit t.config.spans t.rows t.columns ≡ true = (rw (c.count_rows-rows.ensures, c.count_columns-columns.ensures.value) at (sym c.spans_fit.ensures ∙ c.if-not-spans_fit.false)) in
    let answer : totals_fit (sized t.config t.width t.height c.count_rows-rows.result c.count_columns-columns.result) ≡ true = sym c.totals_fit.ensures ∙ c.if-not-totals_fit.false in
    let totals : totals_fit t ≡ true = sym (totals_fit-sized t) ∙ (rw (c.count_rows-rows.ensures, c.count_columns-columns.ensures.value) at answer) in
    ap (λ o. unless_misfit o) (ap (λ (o : Option Position). option_map room_of o) (sym c.in-Some.is ∙ c.first_failing.ensures) ∙ sym (misfit_of-rooms t size spans totals))

pub returns-in-None : goal.returns-in-None
returns-in-None g c =
    let t = table_of c.args.config.now (g.D.Dimension.width c.args.dimension.now) (g.D.Dimension.height c.args.dimension.now) (g.R.Records.texts c.args.records.now) (g.R.Records.columns c.args.records.now) in
    let size : ((t.rows == 0) || (t.columns == 0)) ≡ false = grind (arith, nat_tests, c.if-rows-eq0.false, c.if-columns-eq0.false, c.count_rows-rows.ensures, c.count_columns-columns.ensures.value) in
    let spans : spans_fit t.config.spans t.rows t.columns ≡ true = (rw (c.count_rows-rows.ensures, c.count_columns-columns.ensures.value) at (sym c.spans_fit.ensures ∙ c.if-not-spans_fit.false)) in
    let answer : totals_fit (sized t.config t.width t.height c.count_rows-rows.result c.count_columns-columns.result) ≡ true = sym c.totals_fit.ensures ∙ c.if-not-totals_fit.false in
    let totals : totals_fit t ≡ true = sym (totals_fit-sized t) ∙ (rw (c.count_rows-rows.ensures, c.count_columns-columns.ensures.value) at answer) in
    ap (λ o. unless_misfit o) (ap (λ (o : Option Position). option_map room_of o) (sym c.in-None.is ∙ c.first_failing.ensures) ∙ sym (misfit_of-rooms t size spans totals))
