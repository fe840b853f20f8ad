use Rattle.std.proofs.Common.{◌≡◌, ◌^◌}
use Rattle.ruled_database.proofs.float.ten_to.Given as goal

abbrev pub invariant-loop-turn : goal.invariant-loop-turn
invariant-loop-turn l = l.power ≡ 10 ^ l._turn
