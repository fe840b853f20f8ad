use Rattle.std.proofs.Common.{◌≡◌}
use Rattle.csv.specs.Records.{fields_of}
use Rattle.sqlite.specs.Values.{bound}
use Rattle.ruled_sql.specs.Filled.{values_of}
use Rattle.ruled_sql.proofs.filled.values_of.Given as goal

abbrev pub invariant-loop-place : goal.invariant-loop-place
invariant-loop-place l = bound l.values.items ≡ values_of l.place (fields_of l.fields)
