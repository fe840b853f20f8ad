use Rattle.std.proofs.Common.{map, take}
use Rattle.csv.specs.Records.{fields_of}
use Rattle.ruled_sql.specs.Filled.{AreRun, insertions}
use Rattle.ruled_sql.proofs.filled.insert_rows.Given as goal

abbrev pub invariant-loop-fields : goal.invariant-loop-fields
invariant-loop-fields l = AreRun (insertions l.text l.count (map fields_of (take l.fields-index l.records))) l.fn.connection l.connection
