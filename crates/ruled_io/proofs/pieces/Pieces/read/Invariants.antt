use Rattle.std.specs.Io.KnownBytes.{Keeps}
use Rattle.ruled_io.proofs.pieces.Pieces.read.Given as goal

-- nothing was read yet
abbrev pub invariant-loop : goal.invariant-loop
invariant-loop g l = Keeps (g.R.Read.remaining l.initial.self.input) (g.R.Read.remaining l.self.input)
