use Rattle.std.proofs.Common.{ap, ◌∙◌}
use Rattle.pg_table.proofs.FittedTables.{table-fitted, bound, limited}
use Rattle.pg_table.proofs.natural.NaturalTable.within_limits.Goals as goal

pub returns-clause-table : goal.returns-clause-table
returns-clause-table g c =
    let self = c.args.self.now in
    table-fitted g.R.Records.texts g.R.Records.columns c.fit.new.records self.records (c.in_ok-widths.ensures.records ∙ ap (λ o. o.records) c.new-records.ensures) c.args.how c.args.width c.args.limits.now self.config.now c.in_ok-widths.widths.items c.in_ok-widths.ensures.fits (g.C.Colors.color self.colors.now)

pub returns-clause-bound : goal.returns-clause-bound
returns-clause-bound g c =
    let self = c.args.self.now in
    bound g.R.Records.texts g.R.Records.columns c.fit.new.records self.records (c.in_ok-widths.ensures.records ∙ ap (λ o. o.records) c.new-records.ensures) c.args.how c.args.width c.args.limits.now self.config.now c.in_ok-widths.widths.items c.in_ok-widths.ensures.fits (g.C.Colors.color self.colors.now)

pub returns-clause-limits : goal.returns-clause-limits
returns-clause-limits g c =
    let self = c.args.self.now in
    limited g.R.Records.texts g.R.Records.columns c.fit.new.records self.records (c.in_ok-widths.ensures.records ∙ ap (λ o. o.records) c.new-records.ensures) c.args.how c.args.width c.args.limits.now self.config.now c.in_ok-widths.widths.items c.in_ok-widths.ensures.fits (g.C.Colors.color self.colors.now)
