use Rattle.std.proofs.Common.{◌≡◌, ◌+◌}
use Rattle.sqlite_sql.specs.Spelling as spec
use Rattle.ruled_database.proofs.float.count.Given as goal

abbrev pub invariant-digits : goal.invariant-digits
invariant-digits l = l.count + spec.count l.left ≡ spec.count l.number + 1

abbrev pub decreases-digits : goal.decreases-digits
decreases-digits l = l.left
