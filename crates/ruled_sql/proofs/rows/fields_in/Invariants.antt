use Rattle.std.proofs.Common.{◌≡◌, [], map, take}
use Rattle.csv.specs.Records.{fields_of, partial_of}
use Rattle.ruled_database.specs.Tables.{shown_text}
use Rattle.ruled_sql.proofs.rows.fields_in.Given as goal

abbrev pub invariant-loop-at : goal.invariant-loop-at
invariant-loop-at l = record {
  fields : fields_of l.texts ≡ map (shown_text l.null) (take l.at l.fn.values);
  partial : partial_of l.texts ≡ [];
}
