use Rattle.std.proofs.Common.{◌≡◌}
use Rattle.pg_layout.specs.Records.{text_at}
use Rattle.pg_fit.specs.Overlaid.{other_text}
use Rattle.pg_table.proofs.FittedPlaces.{FitsRows}
use Rattle.pg_table.proofs.sizes.NaturalSizes.fit_column.Given as goal

-- the rows so far are fitted
abbrev pub invariant-loop-row : goal.invariant-loop-row
invariant-loop-row g l =
    (l.fitted.records ≡ l.fn.fitted.records)
    × FitsRows l.how l.self.config.now (text_at (g.R.Records.texts l.self.records)) l.column l.width l.row (other_text l.fn.fitted.others (g.R.Records.texts l.self.records)) (other_text l.fitted.others (g.R.Records.texts l.self.records))
