use Rattle.std.proofs.Common.{map}
use Rattle.csv.specs.Records.{fields_of}
use Rattle.ruled_io.specs.Reading.{Origin, StandsIn}
use Rattle.ruled_io.proofs.stream.read_first.Given as goal

abbrev pub invariant-loop : goal.invariant-loop
invariant-loop g l =
    (origin : Origin) → StandsIn origin (g.R.Read.remaining l.fn.pieces.input) (map fields_of l.fn.rows.items) l.fn.reading
    → StandsIn origin (g.R.Read.remaining l.pieces.input) (map fields_of l.rows.items) l.reading
