use Rattle.std.proofs.Common.{◌≡◌, ◌∙◌, ap, arith, option_map, string_bytes, rules}
use Rattle.csv.specs.Records.{fields_of}
use Rattle.json.specs.Find.{get}
use Rattle.json.specs.Value.{value_view}
use Rattle.ruled_json.specs.Rows.{cell_text}
use Rattle.ruled_json.proofs.Views.{part_has_numbers}
use Rattle.ruled_json.proofs.Tables.{made_next, whole_row}
use Rattle.ruled_json.proofs.member_names.MemberNames.wide_row.Goals as goal

pub push_cell-requires : goal.push_cell-requires
push_cell-requires c = record {
  numbers = part_has_numbers c.as_str.result.now (value_view c.args.value.now) c.member_named.result c.requires.numbers
      (ap (option_map (λ v. value_view v.now)) c.member_named.ensures ∙ c.in_ok-members.ensures c.as_str.result.now);
}

pub loop-name-preserved : goal.loop-name-preserved
loop-name-preserved c =
    let value = value_view c.args.value.now in
    let x = c.name-item.result in
    let text : c.as_str.result.now ≡ string_bytes x = search rules in
    let found = ap (option_map (λ v. value_view v.now)) c.member_named.ensures ∙ c.in_ok-members.ensures c.as_str.result.now in
    made_next (λ name. cell_text c.args.null.now (get (string_bytes name) value)) c.as_slice-name-items.result.now c.loop-name.name-index x
    (fields_of c.loop-name.row) (fields_of c.push_cell.new.row) _ (omega arith) c.name-item.is c.in_ok-push_cell.ensures
    (ap (cell_text c.args.null.now) found ∙ ap (λ name. cell_text c.args.null.now (get name value)) text) c.loop-name.invariant

pub returns : goal.returns
returns c =
    whole_row c.args.null.now c.args.self.now.names.keys c.as_slice-name-items.result.now (value_view c.args.value.now) c.loop-name.name-index (fields_of c.loop-name.row)
    c.as_slice-name-items.ensures.keys (omega arith) c.loop-name.invariant
