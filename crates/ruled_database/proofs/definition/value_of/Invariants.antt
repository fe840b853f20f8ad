use Rattle.std.proofs.Common.{◌≡◌, length}
use Rattle.ruled_database.specs.Definitions.{value_of}
use Rattle.ruled_database.proofs.definition.value_of.Given as goal

abbrev pub invariant-loop-tokens : goal.invariant-loop-tokens
invariant-loop-tokens l = value_of l.kind l.tokens ≡ value_of l.kind l.initial.tokens

abbrev pub decreases-loop-tokens : goal.decreases-loop-tokens
decreases-loop-tokens l = length l.tokens
