use Rattle.std.proofs.Common.{◌≡◌, length}
use Rattle.ruled_sql.specs.Lacks.{lack_from}
use Rattle.ruled_sql.specs.declared.lack.Mode.TheVariants as mode
use Rattle.ruled_sql.proofs.lack.lack_in.Given as goal

abbrev pub invariant-loop-text : goal.invariant-loop-text
invariant-loop-text l = lack_from l.mode l.text ≡ lack_from mode.Between l.initial.text

abbrev pub decreases-loop-text : goal.decreases-loop-text
decreases-loop-text l = length l.text
