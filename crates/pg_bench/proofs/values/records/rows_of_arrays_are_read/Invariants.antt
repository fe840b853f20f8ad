use Rattle.std.proofs.Common.{map}
use Rattle.std.specs.Vec.Iter.{into_iter_items}
use Rattle.pg_bench.proofs.values.records.rows_of_arrays_are_read.Given as goal

abbrev pub ghost-new : goal.ghost-new
ghost-new a = map (λ row. map (λ cell. cell.now) row) (into_iter_items a.iter)
