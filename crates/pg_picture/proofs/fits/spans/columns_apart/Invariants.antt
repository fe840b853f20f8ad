use Rattle.std.proofs.Common.{◌≡◌, None}
use Rattle.pg_picture.specs.Inside.{columns_apart}
use Rattle.pg_picture.proofs.fits.spans.columns_apart.Given as goal

-- what is left is told by the rectangles that are left
abbrev pub invariant-loop-corner : goal.invariant-loop-corner
invariant-loop-corner g l = columns_apart None l.spans ≡ columns_apart l.above l.corner-iterator
