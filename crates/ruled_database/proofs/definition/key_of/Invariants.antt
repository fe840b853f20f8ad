use Rattle.std.proofs.Common.{◌≡◌, ◌++◌, length, map}
use Rattle.ruled_database.specs.Definitions.{key_of}
use Rattle.ruled_database.proofs.definition.key_of.Given as goal

abbrev pub invariant-loop-parts : goal.invariant-loop-parts
invariant-loop-parts l = map (λ name. name.now) l.names.items ++ key_of l.parts ≡ key_of l.initial.parts

abbrev pub decreases-loop-parts : goal.decreases-loop-parts
decreases-loop-parts l = length l.parts
