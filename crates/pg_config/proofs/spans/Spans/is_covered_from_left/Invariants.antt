use Rattle.std.proofs.Common.{◌≡◌}
use Rattle.pg_config.specs.Inside.{is_covered_from_left}
use Rattle.pg_config.proofs.CoveredPlaces.{is_covered_left_of}
use Rattle.pg_config.proofs.spans.Spans.is_covered_from_left.Given as goal

-- what is left is told by the columns left of the last one
abbrev pub invariant-loop-span : goal.invariant-loop-span
invariant-loop-span g l = is_covered_from_left l.self l.pos l.first l.last ≡ is_covered_left_of l.self l.pos l.column l.first l.last

abbrev pub decreases-loop-span : goal.decreases-loop-span
decreases-loop-span g l = l.column
