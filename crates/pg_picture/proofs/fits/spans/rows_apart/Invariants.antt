use Rattle.std.proofs.Common.{◌≡◌}
use Rattle.std.specs.List.{list_all}
use Rattle.pg_layout.specs.Places.{Each}
use Rattle.pg_picture.specs.Inside.{HasEnd, apart_right, rows_apart}
use Rattle.pg_picture.proofs.fits.spans.rows_apart.Given as goal

-- what is left is told by the rectangles that are left
abbrev pub invariant-loop-corner : goal.invariant-loop-corner
invariant-loop-corner g l = record {
  ends : Each HasEnd l.corner-iterator;
  rest : rows_apart l.spans ≡ list_all (λ s. list_all (apart_right s) l.spans) l.corner-iterator;
}
