use Rattle.std.proofs.Common.{◌≡◌, length, map}
use Rattle.ruled_sql.specs.Lacks.{is_among}
use Rattle.ruled_sql.proofs.lack.is_among.Given as goal

abbrev pub invariant-loop-words : goal.invariant-loop-words
invariant-loop-words l = is_among (map (λ it. it.now) l.words) l.word ≡ is_among (map (λ it. it.now) l.initial.words) l.word

abbrev pub decreases-loop-words : goal.decreases-loop-words
decreases-loop-words l = length l.words
