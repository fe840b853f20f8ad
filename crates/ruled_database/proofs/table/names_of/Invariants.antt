use Rattle.std.proofs.Common.{◌≡◌, [], take}
use Rattle.csv.specs.Records.{fields_of, partial_of}
use Rattle.ruled_database.specs.Tables.{names_in}
use Rattle.ruled_database.proofs.table.names_of.Given as goal

abbrev pub invariant-loop-column : goal.invariant-loop-column
invariant-loop-column l = record {
  fields : fields_of l.names ≡ names_in (take l.column-index l.columns);
  partial : partial_of l.names ≡ [];
}
