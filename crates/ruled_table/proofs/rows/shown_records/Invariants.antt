use Rattle.std.proofs.Common.{◌≡◌, ◌++◌, map}
use Rattle.std.specs.Vec.Iter.{into_iter_items}
use Rattle.csv.specs.Records.{fields_of}
use Rattle.ruled_table.specs.Shown.{shown_text}
use Rattle.ruled_table.proofs.rows.shown_records.Given as goal

abbrev pub invariant-loop-fields : goal.invariant-loop-fields
invariant-loop-fields l =
    map fields_of l.rows.items ++ map (λ fields. map (shown_text l.options) (fields_of fields)) (into_iter_items l.fields-iterator)
    ≡ map (map (shown_text l.options)) (map fields_of l.fn.records.items)
