use Rattle.std.proofs.Common.{◌≡◌, map}
use Rattle.std.specs.List.{range_with_len}
use Rattle.pg_table.specs.Fitted.{column_range}
use Rattle.pg_table.proofs.sizes.NaturalSizes.ranges.Given as goal

-- those so far are listed
abbrev pub invariant-loop-column : goal.invariant-loop-column
invariant-loop-column g l =
    l.ranges.items ≡ map (column_range l.within.how l.within.total l.within.limits.now l.self.config.now (g.R.Records.texts l.self.records) (g.R.Records.columns l.self.records)) (range_with_len 0 l.column)
