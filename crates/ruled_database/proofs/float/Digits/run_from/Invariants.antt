use Rattle.std.proofs.Common.{◌≡◌, ◌≤◌}
use Rattle.sqlite_sql.specs.Spelling as spec
use Rattle.ruled_database.proofs.float.Digits.run_from.Given as goal

abbrev pub invariant-run : goal.invariant-run
invariant-run l = record {
  run : spec.run_from l.fn.self.number l.of l.start ≡ spec.run_from l.fn.self.number l.of l.before;
  within : l.start ≤ l.before;
  front : l.front ≡ spec.front l.fn.self.number l.start;
  small : l.front ≤ l.fn.self.number;
}

abbrev pub decreases-run : goal.decreases-run
decreases-run l = l.start
