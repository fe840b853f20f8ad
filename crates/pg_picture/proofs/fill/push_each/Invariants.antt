use Rattle.pg_picture.proofs.Appending.{Gained}
use Rattle.pg_picture.specs.Pieces.{repeated}
use Rattle.pg_picture.proofs.fill.push_each.Given as goal

abbrev pub invariant-loop : goal.invariant-loop
invariant-loop g l = Gained l.fn.buf l.buf (repeated l.c l.counter)
