use Rattle.std.proofs.Common.{◌≡◌, map, take, string_bytes, Some}
use Rattle.csv.specs.Records.{fields_of}
use Rattle.json.specs.Value.{value_view}
use Rattle.ruled_json.specs.Rows.{cell_text}
use Rattle.ruled_json.proofs.member_names.MemberNames.ordered_row.Given as goal

abbrev pub invariant-loop-at : goal.invariant-loop-at
invariant-loop-at l = record {
  named : map (λ m. m.0.now) (take l.at l.members) ≡ map string_bytes (take l.at l.names);
  row : fields_of l.row ≡ map (λ m. cell_text l.null (Some (value_view m.1))) (take l.at l.members);
}
