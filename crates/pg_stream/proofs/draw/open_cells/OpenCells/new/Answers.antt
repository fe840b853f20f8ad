use Rattle.std.proofs.Common.{◌≡◌, ◌∙◌, ap, replicate, None, arith}
use Rattle.pg_stream.proofs.draw.open_cells.OpenCells.new.Goals as goal

pub returns : goal.returns
returns g c = let all : c.loop.counter ≡ c.args.columns = omega arith in c.loop.invariant ∙ ap (λ n. replicate n None) all
