use Rattle.std.proofs.Common.{ℕ, ◌<◌, ◌^◌}
use Rattle.pg_table.specs.Inside.{size_of}
use Rattle.pg_table.proofs.sizes.NaturalSizes.all_fit.Given as goal

-- those so far fit
abbrev pub invariant-loop-k : goal.invariant-loop-k
invariant-loop-k g l = (i : ℕ) → i < l.k → size_of g.R.Records.texts g.R.Records.columns l.self l.axis i < 2 ^ 64
