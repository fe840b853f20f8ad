use Rattle.std.proofs.Common.{◌≡◌, length, map}
use Rattle.csv.specs.Records.{fields_of}
use Rattle.ruled_database.specs.Listings.{HasWrongEntry, with_entries}
use Rattle.ruled_database.proofs.schema.push_listing.Given as goal

abbrev pub invariant-loop-schema : goal.invariant-loop-schema
invariant-loop-schema l = record {
  rows : with_entries (map fields_of l.rows.items) (map fields_of l.schema) ≡ with_entries (map fields_of l.initial.rows.items) (map fields_of l.initial.schema);
  wrong : HasWrongEntry (map fields_of l.schema) → HasWrongEntry (map fields_of l.initial.schema);
}

abbrev pub decreases-loop-schema : goal.decreases-loop-schema
decreases-loop-schema l = length l.schema
