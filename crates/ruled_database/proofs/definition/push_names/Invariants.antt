use Rattle.std.proofs.Common.{◌≡◌, ◌++◌, true, length, map}
use Rattle.ruled_database.specs.Definitions.{names_from}
use Rattle.ruled_database.proofs.definition.push_names.Given as goal

abbrev pub invariant-loop-tokens : goal.invariant-loop-tokens
invariant-loop-tokens l = map (λ name. name.now) l.names.items ++ names_from l.is_first l.tokens ≡ map (λ name. name.now) l.fn.names.items ++ names_from true l.initial.tokens

abbrev pub decreases-loop-tokens : goal.decreases-loop-tokens
decreases-loop-tokens l = length l.tokens
