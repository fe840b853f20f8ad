use Rattle.std.proofs.Common.{◌≡◌, length, map}
use Rattle.csv.specs.Records.{fields_of}
use Rattle.ruled_database.specs.Listings.{find}
use Rattle.ruled_database.proofs.schema.find.Given as goal

abbrev pub invariant-loop-schema : goal.invariant-loop-schema
invariant-loop-schema l = find l.name (map fields_of l.schema) ≡ find l.name (map fields_of l.initial.schema)

abbrev pub decreases-loop-schema : goal.decreases-loop-schema
decreases-loop-schema l = length l.schema
