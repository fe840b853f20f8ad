use Rattle.std.proofs.Common.{◌≡◌, ◌∷◌, map, take, string_bytes}
use Rattle.csv.specs.Records.{fields_of}
use Rattle.json.specs.Value.{value_view}
use Rattle.ruled_json.specs.Rows.{row_of}
use Rattle.ruled_json.proofs.value.table_of.Given as goal

abbrev pub invariant-loop-record : goal.invariant-loop-record
invariant-loop-record l =
    let columns = map string_bytes l.columns.names.keys in
    map fields_of l.rows.items ≡ columns ∷ map (row_of l.null columns) (map value_view (take l.record-index l.records))
