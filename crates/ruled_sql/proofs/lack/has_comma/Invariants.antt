use Rattle.std.proofs.Common.{◌≡◌, length}
use Rattle.ruled_sql.specs.Lacks.{has_comma, has_comma_in}
use Rattle.ruled_sql.proofs.lack.has_comma.Given as goal

abbrev pub invariant-loop-text : goal.invariant-loop-text
invariant-loop-text l = has_comma_in l.mode l.depth l.text ≡ has_comma l.initial.text

abbrev pub decreases-loop-text : goal.decreases-loop-text
decreases-loop-text l = length l.text
