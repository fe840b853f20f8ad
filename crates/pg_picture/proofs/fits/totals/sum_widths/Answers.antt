use Rattle.std.proofs.Common.{◌≡◌, ◌+◌, ℕ, sum_by, sym, ap, ◌∙◌, arith}
use Rattle.std.specs.List.{range_with_len}
use Rattle.pg_picture.specs.Sizes.{if_fits}
use Rattle.pg_picture.proofs.Ranges.{if_fits-above, if_fits-below, sum_by-from_more, sum_by-from_le}
use Rattle.pg_picture.proofs.fits.totals.sum_widths.Goals as goal

pub returns-in_err-sum : goal.returns-in_err-sum
returns-in_err-sum g c =
    let f : ℕ → ℕ = g.D.Dimension.width c.args.dimension.now in
    let whole = sum_by-from_le f c.args.first c.loop-step.step c.args.count c.loop-step-test.true in
    c.from_residual.ensures
    ∙ sym (if_fits-above (c.loop-step.sum + c.get_width.result) (sum_by f (range_with_len c.args.first c.args.count)) c.in_err-sum.ensures (omega (arith, whole, c.loop-step.invariant.1, c.get_width.ensures)))

pub loop-step-preserved : goal.loop-step-preserved
loop-step-preserved g c =
    let more = sum_by-from_more (g.D.Dimension.width c.args.dimension.now) c.args.first c.loop-step.step in
    (omega (arith, c.in_ok-sum.ensures.0, c.in_ok-sum.ensures.1), omega (arith, c.in_ok-sum.ensures.1, c.loop-step.invariant.1, c.get_width.ensures, more))

pub returns : goal.returns
returns g c =
    let all : c.loop-step.step ≡ c.args.count = omega arith in
    sym (if_fits-below c.loop-step.sum c.loop-step.invariant.0)
    ∙ ap (λ n. if_fits n) (c.loop-step.invariant.1 ∙ ap (λ n. sum_by (g.D.Dimension.width c.args.dimension.now) (range_with_len c.args.first n)) all)
