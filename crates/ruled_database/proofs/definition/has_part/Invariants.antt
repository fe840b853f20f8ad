use Rattle.std.proofs.Common.{◌≡◌, length}
use Rattle.ruled_database.specs.Definitions.{has_part}
use Rattle.ruled_database.proofs.definition.has_part.Given as goal

abbrev pub invariant-loop-text : goal.invariant-loop-text
invariant-loop-text l = has_part l.part l.text ≡ has_part l.part l.initial.text

abbrev pub decreases-loop-text : goal.decreases-loop-text
decreases-loop-text l = length l.text
