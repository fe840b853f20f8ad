use Rattle.std.proofs.Common.{◌≡◌, max, drop}
use Rattle.pg_fit.specs.Narrowing.{widest}
use Rattle.pg_fit.proofs.narrowing.widest.Given as goal

abbrev pub invariant-loop-column : goal.invariant-loop-column
invariant-loop-column l = max l.width (widest (drop l.column-index l.columns)) ≡ widest l.columns
