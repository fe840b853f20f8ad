use Rattle.std.proofs.Common.{◌≡◌, ◌∷◌, take}
use Rattle.csv.specs.Records.{fields_of}
use Rattle.ruled_table.specs.Arranged.{label_of}
use Rattle.ruled_table.proofs.arrangement.with_number.Given as goal

abbrev pub invariant-loop-place : goal.invariant-loop-place
invariant-loop-place l = fields_of l.row ≡ label_of l.number ∷ take l.place (fields_of l.fields)
