use Rattle.std.proofs.Common.{ℕ, sym, ap, ◌∙◌}
use Rattle.pg_picture.specs.Sizes.{if_fits}
use Rattle.pg_table.specs.Inside.{least_of}
use Rattle.pg_table.proofs.ListedSizes.{sum-more}
use Rattle.pg_table.proofs.sizes.NaturalSizes.least_total.Goals as goal

pub loop-column-preserved : goal.loop-column-preserved
loop-column-preserved g c =
    let f : ℕ → ℕ = least_of g.R.Records.texts g.R.Records.columns c.args.self.now c.args.how in
    c.together-sum.ensures _ _ c.loop-column.invariant c.least_width.ensures ∙ sym (ap (λ n. if_fits n) (sum-more f c.loop-column.column))
