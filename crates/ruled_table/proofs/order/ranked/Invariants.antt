use Rattle.std.proofs.Common.{◌≡◌, ◌++◌, map}
use Rattle.std.specs.Vec.Iter.{into_iter_items}
use Rattle.csv.specs.Records.{fields_of}
use Rattle.ruled_table.specs.Order.{row_in, with_rank}
use Rattle.ruled_table.proofs.order.ranked.Given as goal

abbrev pub invariant-loop-fields : goal.invariant-loop-fields
invariant-loop-fields l =
    map row_in l.ranked.items ++ map (λ fields. with_rank l.options l.is_numeric l.column (fields_of fields)) (into_iter_items l.fields-iterator)
    ≡ map (with_rank l.options l.is_numeric l.column) (map fields_of l.fn.rows.items)
