use Rattle.std.proofs.Common.{◌≡◌, length}
use Rattle.ruled_database.specs.Definitions.{read_from}
use Rattle.ruled_database.proofs.token.read_on.Given as goal

abbrev pub invariant-loop-text : goal.invariant-loop-text
invariant-loop-text l = read_from l.statement l.text ≡ read_from l.initial.statement l.initial.text

abbrev pub decreases-loop-text : goal.decreases-loop-text
decreases-loop-text l = length l.text
