use Rattle.std.proofs.Common.{◌≡◌, length, map}
use Rattle.ruled_sql.specs.Lacks.{lack_named}
use Rattle.ruled_sql.proofs.lack.lack_named.Given as goal

abbrev pub invariant-loop-lacks : goal.invariant-loop-lacks
invariant-loop-lacks l = lack_named (map (λ it. (it.0.now, it.1.now)) l.lacks) l.word ≡ lack_named (map (λ it. (it.0.now, it.1.now)) l.initial.lacks) l.word

abbrev pub decreases-loop-lacks : goal.decreases-loop-lacks
decreases-loop-lacks l = length l.lacks
