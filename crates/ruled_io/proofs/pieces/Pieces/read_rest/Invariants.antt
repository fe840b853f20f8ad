use Rattle.ruled_io.proofs.Inputs.{Rested}
use Rattle.ruled_io.proofs.pieces.Pieces.read_rest.Given as goal

abbrev pub invariant-loop : goal.invariant-loop
invariant-loop g l = Rested l.fn.bytes.items l.bytes.items (g.R.Read.remaining l.fn.self.input) (g.R.Read.remaining l.self.input)
