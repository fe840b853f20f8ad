use Rattle.std.proofs.Common.{◌<◌, ℕ, not, sym, ap, ◌∙◌, arith}
use Rattle.pg_table.specs.Inside.{size_of, count_of}
use Rattle.pg_table.proofs.ListedSizes.{fits-none, one-past, all_fit-each}
use Rattle.pg_table.proofs.sizes.NaturalSizes.all_fit.Goals as goal

pub returns-then-is_none : goal.returns-then-is_none
returns-then-is_none g c =
    let f : ℕ → ℕ = size_of g.R.Records.texts g.R.Records.columns c.args.self.now c.args.axis in
    let inside : c.loop-k.k < count_of g.R.Records.texts g.R.Records.columns c.args.self.now c.args.axis = omega (arith, c.loop-k-test.true, c.count-k-end.ensures) in
    sym (one-past f (count_of g.R.Records.texts g.R.Records.columns c.args.self.now c.args.axis) c.loop-k.k inside (fits-none _ c.size.result c.size.ensures (c.is_none.ensures ∙ ap not c.if-is_none.true)))

pub returns : goal.returns
returns g c =
    let f : ℕ → ℕ = size_of g.R.Records.texts g.R.Records.columns c.args.self.now c.args.axis in
    sym (all_fit-each f (count_of g.R.Records.texts g.R.Records.columns c.args.self.now c.args.axis) (λ k h. c.loop-k.invariant k (omega (arith, h, c.loop-k-test.false, c.count-k-end.ensures))))
