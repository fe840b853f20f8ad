use Rattle.std.proofs.Common.{◌≡◌, ◌+◌, length, map}
use Rattle.ruled_database.specs.Definitions.{place_from}
use Rattle.ruled_database.proofs.definition.place_in.Given as goal

abbrev pub invariant-loop-names : goal.invariant-loop-names
invariant-loop-names l = record {
  place : place_from l.place (map (λ it. it.now) l.names) l.name ≡ place_from 0 (map (λ it. it.now) l.initial.names) l.name;
  within : l.place + length l.names ≡ length l.initial.names;
}

abbrev pub decreases-loop-names : goal.decreases-loop-names
decreases-loop-names l = length l.names
