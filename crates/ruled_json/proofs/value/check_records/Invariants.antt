use Rattle.std.proofs.Common.{◌≡◌, ◌+◌, map, drop}
use Rattle.json.specs.Value.{value_view}
use Rattle.ruled_json.specs.Faults.{first_fault}
use Rattle.ruled_json.proofs.value.check_records.Given as goal

abbrev pub invariant-loop-at : goal.invariant-loop-at
invariant-loop-at l = first_fault 1 (map value_view l.values) ≡ first_fault (l.at + 1) (map value_view (drop l.at l.values))
