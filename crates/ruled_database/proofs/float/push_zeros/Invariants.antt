use Rattle.std.proofs.Common.{◌≡◌, ◌++◌, replicate}
use Rattle.ruled_database.proofs.float.push_zeros.Given as goal

abbrev pub invariant-loop-turn : goal.invariant-loop-turn
invariant-loop-turn l = l.text.items ≡ l.fn.text.items ++ replicate l._turn 48
