use Rattle.std.proofs.Common.{◌≡◌, length}
use Rattle.ruled_database.specs.Definitions.{says_any}
use Rattle.ruled_database.proofs.definition.says_any.Given as goal

abbrev pub invariant-loop-tokens : goal.invariant-loop-tokens
invariant-loop-tokens l = says_any l.word l.tokens ≡ says_any l.word l.initial.tokens

abbrev pub decreases-loop-tokens : goal.decreases-loop-tokens
decreases-loop-tokens l = length l.tokens
