use Rattle.std.proofs.Common.{◌≡◌, take}
use Rattle.ruled_row.proofs.ends.many.Given as goal

abbrev pub invariant-loop-end : goal.invariant-loop-end
invariant-loop-end l = l.many.items ≡ take l.end-index l.few
