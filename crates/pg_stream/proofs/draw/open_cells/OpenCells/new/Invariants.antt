use Rattle.std.proofs.Common.{◌≡◌, replicate, None}
use Rattle.pg_stream.proofs.draw.open_cells.OpenCells.new.Given as goal

abbrev pub invariant-loop : goal.invariant-loop
invariant-loop g l = l.slots.items ≡ replicate l.counter None
