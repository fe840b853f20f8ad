use Rattle.std.proofs.Common.{◌≡◌, replicate}
use Rattle.csv.specs.Records.{fields_of}
use Rattle.ruled_table.specs.Sides.{gap}
use Rattle.ruled_table.proofs.rows.gap_of.Given as goal

abbrev pub invariant-loop-place : goal.invariant-loop-place
invariant-loop-place l = fields_of l.gap ≡ replicate l.place gap
