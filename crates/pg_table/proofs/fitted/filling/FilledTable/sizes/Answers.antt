use Rattle.std.proofs.Common.{◌≡◌, ◌<◌, ◌+◌, ◌^◌, ℕ, List, refl, ap, arith, set, slice_index_or, length, ◌∙◌}
use Rattle.pg_fit.specs.Overlaid.{overlaid}
use Rattle.pg_table.specs.Spanning.{widths_from}
use Rattle.pg_table.specs.Fitted.{printed_fitted_table}
use Rattle.pg_table.proofs.Filled.{fits-none, filled-fits, widen-fits, filled-is, widths-long}
use Rattle.pg_table.proofs.fitted.filling.FilledTable.sizes.Goals as goal

pub widen-requires : goal.widen-requires
widen-requires g c = λ more inside.
    let self = c.args.self.now.fitted in
    let texts = overlaid g.R.Records.texts g.R.Records.columns self.records in
    let columns : ℕ = g.R.Records.columns self.records.records in
    let wide = c.in_ok-dimension.ensures.widths in
    let long = ap (λ xs. length xs) wide ∙ widths-long self.widths.items self.config.now texts columns in
    let here = ap (λ (xs : List ℕ). slice_index_or xs c.args.self.now.column 0) wide in
    let fits = widen-fits self.widths.items self.config.now texts columns (g.C.Colors.color self.colors.now) c.args.self.now.width c.args.self.now.column (omega arith) (c.in_ok-dimension.ensures.ok refl) (rw (← c.lacking-more.ensures) more) (omega (arith, inside, long)) in
    omega (arith, fits, here, c.lacking-more.ensures)

pub returns-clause-table : goal.returns-clause-table
returns-clause-table g c =
    let self = c.args.self.now.fitted in
    let column : ℕ = c.args.self.now.column in
    let texts = overlaid g.R.Records.texts g.R.Records.columns self.records in
    let columns : ℕ = g.R.Records.columns self.records.records in
    let ws : List ℕ = widths_from self.widths.items self.config.now texts columns in
    let raised = c.widen.ensures ∙ ap (λ (xs : List ℕ). set xs column (slice_index_or xs column 0 + c.lacking-more.result)) c.in_ok-dimension.ensures.widths ∙ ap (λ (n : ℕ). set ws column (slice_index_or ws column 0 + n)) c.lacking-more.ensures in
    filled-is self.widths.items self.config.now texts columns (g.C.Colors.color self.colors.now) c.args.self.now.width column _ _ raised c.in_ok-dimension.ensures.heights

pub returns-clause-fits : goal.returns-clause-fits
returns-clause-fits g c = λ ok.
    let self = c.args.self.now.fitted in
    filled-fits (printed_fitted_table g.R.Records.texts g.R.Records.columns g.C.Colors.color self) c.args.self.now.width c.args.self.now.column (omega arith)
    (fits-none self.widths.items self.config.now (overlaid g.R.Records.texts g.R.Records.columns self.records) (g.R.Records.columns self.records.records) (g.C.Colors.color self.colors.now) (c.in_ok-dimension.ensures.ok refl))
