use Rattle.std.proofs.Common.{◌≡◌, ◌^◌, ◌<◌, sum_by}
use Rattle.std.specs.List.{range_with_len}
use Rattle.pg_picture.proofs.fits.totals.sum_heights.Given as goal

-- the sum of the steps so far
abbrev pub invariant-loop-step : goal.invariant-loop-step
invariant-loop-step g l = (l.sum < 2 ^ 64) × (l.sum ≡ sum_by (g.D.Dimension.height l.dimension) (range_with_len l.first l.step))
