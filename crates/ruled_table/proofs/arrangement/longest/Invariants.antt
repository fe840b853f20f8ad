use Rattle.std.proofs.Common.{◌≡◌, drop, map, max}
use Rattle.csv.specs.Records.{fields_of}
use Rattle.ruled_table.specs.Arranged.{longest}
use Rattle.ruled_table.proofs.arrangement.longest.Given as goal

abbrev pub invariant-loop-fields : goal.invariant-loop-fields
invariant-loop-fields l = max l.longest (longest (map fields_of (drop l.fields-index l.rows))) ≡ longest (map fields_of l.rows)
