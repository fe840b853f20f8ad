use Rattle.std.proofs.Common.{◌≡◌, length}
use Rattle.ruled_sql.specs.Lacks.{stray_from}
use Rattle.ruled_sql.specs.declared.lack.Meaning.TheVariants.{Other}
use Rattle.ruled_sql.specs.declared.lack.Mode.TheVariants as mode
use Rattle.ruled_sql.proofs.lack.stray_in.Given as goal

abbrev pub invariant-loop-text : goal.invariant-loop-text
invariant-loop-text l = stray_from l.schema l.table l.query l.wanted l.mode l.meaning l.text ≡ stray_from l.schema l.table l.query l.wanted mode.Between Other l.query

abbrev pub decreases-loop-text : goal.decreases-loop-text
decreases-loop-text l = length l.text
