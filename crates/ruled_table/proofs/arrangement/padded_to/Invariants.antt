use Rattle.std.proofs.Common.{◌≡◌}
use Rattle.csv.specs.Records.{fields_of}
use Rattle.ruled_table.specs.Arranged.{padded_to}
use Rattle.ruled_table.proofs.arrangement.padded_to.Given as goal

abbrev pub invariant-loop-place : goal.invariant-loop-place
invariant-loop-place l = fields_of l.padded ≡ padded_to l.place (fields_of l.fields)
