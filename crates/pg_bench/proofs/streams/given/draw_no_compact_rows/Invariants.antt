use Rattle.std.proofs.Common.{map, replicate}
use Rattle.pg_bench.proofs.streams.given.draw_no_compact_rows.Given as goal

-- the texts of the rows that the iterator gives
abbrev pub ghost-new : goal.ghost-new
ghost-new g a = map (λ row. map (λ cell. cell.now) row) (replicate a.iter.left a.iter.item)
