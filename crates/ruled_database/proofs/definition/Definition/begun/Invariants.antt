use Rattle.std.proofs.Common.{◌≡◌, ◌++◌, length, map}
use Rattle.ruled_database.specs.Definitions.{begun}
use Rattle.ruled_database.proofs.definition.Definition.begun.Given as goal

abbrev pub invariant-loop-first : goal.invariant-loop-first
invariant-loop-first l = l.defaults ++ (begun l.strict l.tree (map (λ name. name.now) l.first)).defaults ≡ (begun l.strict l.tree (map (λ name. name.now) l.initial.first)).defaults

abbrev pub decreases-loop-first : goal.decreases-loop-first
decreases-loop-first l = length l.first
