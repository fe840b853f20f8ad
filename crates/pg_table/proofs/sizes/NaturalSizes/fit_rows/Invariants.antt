use Rattle.std.proofs.Common.{◌≡◌}
use Rattle.pg_fit.specs.Overlaid.{other_text}
use Rattle.pg_table.specs.Inside.{AreFittedTo}
use Rattle.pg_table.proofs.sizes.NaturalSizes.fit_rows.Given as goal

-- the rows before this one are fitted
abbrev pub invariant-loop-row : goal.invariant-loop-row
invariant-loop-row g l =
    (l.fitted.records ≡ l.fn.fitted.records)
    × AreFittedTo l.how l.widths.0.items l.self.config.now (g.R.Records.texts l.self.records) (g.R.Records.columns l.self.records) l.row 0 (other_text l.fitted.others (g.R.Records.texts l.self.records))
