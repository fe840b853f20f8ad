use Rattle.std.proofs.Common.{◌≡◌, map, string_bytes}
use Rattle.csv.specs.Records.{fields_of}
use Rattle.ruled_table.specs.Arranged.{padded_to}
use Rattle.ruled_table.proofs.arrangement.row_of_names.Given as goal

abbrev pub invariant-loop-place : goal.invariant-loop-place
invariant-loop-place l = fields_of l.row ≡ padded_to l.place (map string_bytes l.names)
