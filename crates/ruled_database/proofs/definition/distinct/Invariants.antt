use Rattle.std.proofs.Common.{◌≡◌, [], length, map}
use Rattle.ruled_database.specs.Definitions.{distinct}
use Rattle.ruled_database.proofs.definition.distinct.Given as goal

abbrev pub invariant-loop-names : goal.invariant-loop-names
invariant-loop-names l = distinct (map (λ name. name.now) l.found.items) (map (λ name. name.now) l.names) ≡ distinct [] (map (λ name. name.now) l.initial.names)

abbrev pub decreases-loop-names : goal.decreases-loop-names
decreases-loop-names l = length l.names
