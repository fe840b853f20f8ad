use Rattle.std.proofs.Common.{◌≡◌, map, take}
use Rattle.json.specs.Value.{value_view}
use Rattle.ruled_json.specs.Rows.{flat_record}
use Rattle.ruled_json.proofs.objects.flat_records.Given as goal

abbrev pub invariant-loop-record : goal.invariant-loop-record
invariant-loop-record l = map value_view l.flat.items ≡ map flat_record (map value_view (take l.record-index l.records))
