use Rattle.std.proofs.Common.{◌≡◌, length, map}
use Rattle.ruled_database.specs.Definitions.{is_any}
use Rattle.ruled_database.proofs.definition.is_any.Given as goal

abbrev pub invariant-loop-words : goal.invariant-loop-words
invariant-loop-words l = is_any (map (λ word. word.now) l.words) l.token ≡ is_any (map (λ word. word.now) l.initial.words) l.token

abbrev pub decreases-loop-words : goal.decreases-loop-words
decreases-loop-words l = length l.words
