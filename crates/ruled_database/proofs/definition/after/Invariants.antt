use Rattle.std.proofs.Common.{◌≡◌, length}
use Rattle.ruled_database.specs.Definitions.{after}
use Rattle.ruled_database.proofs.definition.after.Given as goal

abbrev pub invariant-loop-tokens : goal.invariant-loop-tokens
invariant-loop-tokens l = after l.word l.tokens ≡ after l.word l.initial.tokens

abbrev pub decreases-loop-tokens : goal.decreases-loop-tokens
decreases-loop-tokens l = length l.tokens
