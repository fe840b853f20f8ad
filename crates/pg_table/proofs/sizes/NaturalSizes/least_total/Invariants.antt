use Rattle.std.proofs.Common.{◌≡◌, sum_by}
use Rattle.std.specs.List.{range_with_len}
use Rattle.pg_picture.specs.Sizes.{if_fits}
use Rattle.pg_table.specs.Inside.{least_of}
use Rattle.pg_table.proofs.sizes.NaturalSizes.least_total.Given as goal

-- the sum of those so far
abbrev pub invariant-loop-column : goal.invariant-loop-column
invariant-loop-column g l = l.sum ≡ if_fits (sum_by (least_of g.R.Records.texts g.R.Records.columns l.self l.how) (range_with_len 0 l.column))
