use Rattle.std.proofs.Common.{◌≡◌, ◌⊎◌, ◌+◌, ◌-◌, ◌<◌, ◌≤◌}
use Rattle.pg_fit.specs.Narrowing.{total, widest}
use Rattle.pg_fit.proofs.narrowing.find_level.Given as goal

abbrev pub invariant-halving : goal.invariant-halving
invariant-halving l = record {
  order : l.low ≤ l.high;
  within : l.high ≤ widest l.columns;
  fits : (l.low ≡ 0) ⊎ (total l.low l.columns ≤ l.room);
  next : (l.high ≡ widest l.columns) ⊎ (l.room < total (l.high + 1) l.columns);
}

abbrev pub decreases-halving : goal.decreases-halving
decreases-halving l = l.high - l.low
