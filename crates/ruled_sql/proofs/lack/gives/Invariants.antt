use Rattle.std.proofs.Common.{◌≡◌, length}
use Rattle.ruled_sql.specs.Lacks.{gives_from}
use Rattle.ruled_sql.specs.declared.lack.Meaning.TheVariants.{Other}
use Rattle.ruled_sql.specs.declared.lack.Mode.TheVariants as mode
use Rattle.ruled_sql.proofs.lack.gives.Given as goal

abbrev pub invariant-loop-text : goal.invariant-loop-text
invariant-loop-text l = gives_from l.schema l.mode l.meaning l.text l.name ≡ gives_from l.schema mode.Between Other l.initial.text l.name

abbrev pub decreases-loop-text : goal.decreases-loop-text
decreases-loop-text l = length l.text
