use Rattle.std.proofs.Common.{◌≡◌, map}
use Rattle.std.specs.List.{range_with_len}
use Rattle.pg_table.specs.Inside.{size_of}
use Rattle.pg_table.proofs.sizes.NaturalSizes.list.Given as goal

-- those so far are listed
abbrev pub invariant-loop-k : goal.invariant-loop-k
invariant-loop-k g l = l.sizes.items ≡ map (size_of g.R.Records.texts g.R.Records.columns l.self l.axis) (range_with_len 0 l.k)
