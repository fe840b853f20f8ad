use Rattle.std.proofs.Common.{◌≡◌, length, map}
use Rattle.ruled_database.specs.Definitions.{with_parts}
use Rattle.ruled_database.proofs.definition.Definition.with_parts.Given as goal

abbrev pub invariant-loop-parts : goal.invariant-loop-parts
invariant-loop-parts l = with_parts (map (λ it. it.now) l.rowid) (map (λ it. it.now) l.first) l.definition l.parts
    ≡ with_parts (map (λ it. it.now) l.rowid) (map (λ it. it.now) l.first) l.initial.definition l.initial.parts

abbrev pub decreases-loop-parts : goal.decreases-loop-parts
decreases-loop-parts l = length l.parts
