use Rattle.std.proofs.Common.{◌≡◌, ◌+◌, ◌-◌, ◌<◌}
use Rattle.pg_layout.specs.Places.{Each}
use Rattle.pg_picture.proofs.OwnersOfPlaces.{ApartBefore}
use Rattle.pg_picture.proofs.fits.spans.is_apart.Given as goal

-- the rectangles that begin left of the column are told apart
abbrev pub invariant-loop-column : goal.invariant-loop-column
invariant-loop-column g l = record {
  end : l.end ≡ l.span.0.col + l.span.1.columns;
  right : l.span.0.col < l.from;
  apart : Each (ApartBefore l.span l.from) l.spans;
}

abbrev pub decreases-loop-column : goal.decreases-loop-column
decreases-loop-column g l = l.end - l.from
