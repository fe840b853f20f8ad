use Rattle.std.proofs.Common.{◌≡◌, ◌+◌, take}
use Rattle.pg_fit.specs.Narrowing.{total}
use Rattle.pg_fit.proofs.narrowing.fit.Given as goal

abbrev pub invariant-loop-column : goal.invariant-loop-column
invariant-loop-column l = l.left + total l.level (take l.column-index l.columns) ≡ l.room
