use Rattle.std.proofs.Common.{map, replicate}
use Rattle.pg_bench.proofs.values.records.rows_of_another_iterator_are_read.Given as goal

abbrev pub ghost-new : goal.ghost-new
ghost-new a = map (λ row. map (λ cell. cell.now) row) (replicate a.iter.left a.iter.item)
