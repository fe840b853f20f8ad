use Rattle.std.proofs.Common.{◌≡◌, [], take}
use Rattle.csv.specs.Records.{fields_of, partial_of}
use Rattle.ruled_sql.proofs.rows.header_of.Given as goal

abbrev pub invariant-loop-name : goal.invariant-loop-name
invariant-loop-name l = record {
  fields : fields_of l.texts ≡ take l.name-index l.names;
  partial : partial_of l.texts ≡ [];
}
