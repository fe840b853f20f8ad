use Rattle.std.proofs.Common.{◌≡◌, map, take, string_bytes}
use Rattle.csv.specs.Records.{fields_of}
use Rattle.json.specs.Find.{get}
use Rattle.json.specs.Value.{value_view}
use Rattle.ruled_json.specs.Rows.{cell_text}
use Rattle.ruled_json.proofs.member_names.MemberNames.narrow_row.Given as goal

abbrev pub invariant-loop-name : goal.invariant-loop-name
invariant-loop-name l = fields_of l.row ≡ map (λ name. cell_text l.null (get (string_bytes name) (value_view l.value))) (take l.name-index l.name-items)
