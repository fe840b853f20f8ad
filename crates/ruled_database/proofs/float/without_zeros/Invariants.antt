use Rattle.std.proofs.Common.{◌≡◌, ◌-◌}
use Rattle.sqlite_sql.specs.Spelling as spec
use Rattle.ruled_database.proofs.float.without_zeros.Given as goal

abbrev pub invariant-loop-turn : goal.invariant-loop-turn
invariant-loop-turn l = spec.without_zeros (20 - l._turn) l.left ≡ spec.without_zeros 20 l.number
