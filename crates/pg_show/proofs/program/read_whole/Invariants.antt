use Rattle.std.proofs.Common.{◌≡◌, ◌≤◌, length}
use Rattle.std.specs.Io.KnownBytes.{Consumes}
use Rattle.pg_show.proofs.program.read_whole.Given as goal

-- the bytes so far are those that the input has lost, at least one by each read
abbrev pub invariant-loop : goal.invariant-loop
invariant-loop g l = record {
  read : Consumes (g.R.Read.remaining l.fn.input) (g.R.Read.remaining l.input) l.bytes.items;
  reads : l.counter ≤ length l.bytes.items;
  room : length l.block ≡ 4096;
}
