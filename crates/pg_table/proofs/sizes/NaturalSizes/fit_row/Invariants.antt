use Rattle.std.proofs.Common.{◌≡◌}
use Rattle.pg_fit.specs.Overlaid.{other_text}
use Rattle.pg_table.specs.Inside.{AreFittedTo}
use Rattle.pg_table.proofs.sizes.NaturalSizes.fit_row.Given as goal

-- the places before this one are fitted
abbrev pub invariant-loop-col : goal.invariant-loop-col
invariant-loop-col g l =
    (l.fitted.records ≡ l.fn.fitted.records)
    × AreFittedTo l.how l.widths.0.items l.self.config.now (g.R.Records.texts l.self.records) (g.R.Records.columns l.self.records) l.fn.row l.col (other_text l.fitted.others (g.R.Records.texts l.self.records))
