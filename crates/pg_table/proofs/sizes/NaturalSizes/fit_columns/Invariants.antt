use Rattle.std.proofs.Common.{◌≡◌}
use Rattle.pg_fit.specs.Overlaid.{other_text}
use Rattle.pg_table.specs.Inside.{AreFittedBelow}
use Rattle.pg_table.proofs.sizes.NaturalSizes.fit_columns.Given as goal

-- the columns so far are fitted
abbrev pub invariant-loop-column : goal.invariant-loop-column
invariant-loop-column g l =
    (l.fitted.records ≡ l.fn.fitted.records)
    × AreFittedBelow l.within.how l.within.total l.within.limits.now l.self.config.now (g.R.Records.texts l.self.records) (g.R.Records.columns l.self.records) l.column (other_text l.fitted.others (g.R.Records.texts l.self.records))
