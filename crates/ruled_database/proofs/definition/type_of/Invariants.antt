use Rattle.std.proofs.Common.{◌≡◌, length, ◌++◌}
use Rattle.ruled_database.specs.Definitions.{type_of}
use Rattle.ruled_database.proofs.definition.type_of.Given as goal

abbrev pub invariant-loop-tokens : goal.invariant-loop-tokens
invariant-loop-tokens l = l.text.items ++ type_of l.tokens ≡ type_of l.initial.tokens

abbrev pub decreases-loop-tokens : goal.decreases-loop-tokens
decreases-loop-tokens l = length l.tokens
