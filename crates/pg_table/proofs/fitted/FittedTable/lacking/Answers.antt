use Rattle.std.proofs.Common.{◌≡◌, ◌-◌, ◌<◌, ◌≤◌, ◌^◌, ℕ, List, false, true, refl, sym, ap, arith, slice_index_or, ◌∙◌}
use Rattle.pg_picture.specs.Table.{Table, full_width}
use Rattle.pg_picture.proofs.FittingTables.{totals_facts}
use Rattle.pg_table.specs.Fitted.{lacking, printed_fitted_table}
use Rattle.pg_table.proofs.Faults.{fault-none}
use Rattle.pg_table.proofs.Filled.{listed, listed-width}
use Rattle.pg_table.proofs.ListedSizes.{some-below, none-past}
use Rattle.pg_table.proofs.fitted.FittedTable.lacking.Goals as goal

pub full_width-requires : goal.full_width-requires
full_width-requires g c =
    let t : Table = printed_fitted_table g.R.Records.texts g.R.Records.columns g.C.Colors.color c.args.self.now in
    let below = (totals_facts t (fault-none t c.requires.some c.requires.fits).1).columns in
    omega (arith, below, c.count_columns.ensures.value)

pub returns-in-Some : goal.returns-in-Some
returns-in-Some g c =
    let self = c.args.self.now in
    let t : Table = printed_fitted_table g.R.Records.texts g.R.Records.columns g.C.Colors.color self in
    let lacks : lacking c.args.width t ≡ c.args.width - full_width t = rw c.requires.some refl in
    let line = rw (c.in-Some.is, c.count_columns.ensures.value) at c.full_width.ensures in
    let wide = listed-width t c.args.dimension.now.0.items (listed c.args.dimension.now.1.items) (ap (λ (xs : List ℕ). listed xs) c.requires.widths) in
    c.saturating_sub.ensures ∙ ap (λ n. c.args.width - n) ((some-below _ _ line).0 ∙ wide) ∙ sym lacks

pub returns-in-None : goal.returns-in-None
returns-in-None g c =
    let self = c.args.self.now in
    let t : Table = printed_fitted_table g.R.Records.texts g.R.Records.columns g.C.Colors.color self in
    let lacks : lacking c.args.width t ≡ c.args.width - full_width t = rw c.requires.some refl in
    let line = rw (c.in-None.is, c.count_columns.ensures.value) at c.full_width.ensures in
    let wide = listed-width t c.args.dimension.now.0.items (listed c.args.dimension.now.1.items) (ap (λ (xs : List ℕ). listed xs) c.requires.widths) in
    omega (arith, lacks, none-past _ line, wide)
