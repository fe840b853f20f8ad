use Rattle.std.proofs.Common.{◌≡◌, ◌-◌, take}
use Rattle.pg_fit.specs.Narrowing.{total}
use Rattle.pg_fit.proofs.narrowing.left_at.Given as goal

abbrev pub invariant-loop-column : goal.invariant-loop-column
invariant-loop-column l = l.left ≡ l.room - total l.level (take l.column-index l.columns)
