use Rattle.std.proofs.Common.{map, take}
use Rattle.ruled_sql.specs.Filled.{IsFilled, steps_of, table_of, with_rows}
use Rattle.ruled_sql.proofs.filled.filled.Given as goal

abbrev pub invariant-loop-number : goal.invariant-loop-number
invariant-loop-number l = IsFilled (steps_of (with_rows l.has_all (map table_of (take l.number l.tables)))) l.connection
