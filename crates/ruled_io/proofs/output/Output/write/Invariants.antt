use Rattle.std.proofs.Common.{◌≡◌, None}
use Rattle.ruled_io.specs.Faults.{failure_of}
use Rattle.ruled_io.proofs.Fronts.{Goes}
use Rattle.ruled_io.proofs.output.Output.write.Given as goal

abbrev pub invariant-loop : goal.invariant-loop
invariant-loop g l = Goes (g.W.Write.contents l.fn.self.writer) (g.W.Write.contents l.self.writer) l.bytes l.rest × (failure_of l.fn.self ≡ None → failure_of l.self ≡ None)
