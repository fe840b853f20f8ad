use Rattle.std.proofs.Common.{◌≡◌, map, take, string_bytes}
use Rattle.json.specs.Value.{value_view}
use Rattle.ruled_json.specs.Rows.{columns_of}
use Rattle.ruled_json.proofs.value.columns_of.Given as goal

abbrev pub invariant-loop-record : goal.invariant-loop-record
invariant-loop-record l = map string_bytes l.columns.names.keys ≡ columns_of (map value_view (take l.record-index l.records))
