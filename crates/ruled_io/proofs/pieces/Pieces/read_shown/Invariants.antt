use Rattle.std.specs.Io.KnownBytes.{Consumes}
use Rattle.ruled_io.proofs.pieces.Pieces.read_shown.Given as goal

abbrev pub invariant-loop : goal.invariant-loop
invariant-loop g l = Consumes (g.R.Read.remaining l.fn.self.input) (g.R.Read.remaining l.self.input) l.front.items
