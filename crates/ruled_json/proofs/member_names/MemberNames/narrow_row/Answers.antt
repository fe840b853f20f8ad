use Rattle.std.proofs.Common.{arith}
use Rattle.csv.specs.Records.{fields_of}
use Rattle.json.specs.Value.{value_view}
use Rattle.ruled_json.proofs.Views.{part_has_numbers}
use Rattle.ruled_json.proofs.Tables.{whole_row}
use Rattle.ruled_json.proofs.member_names.MemberNames.narrow_row.Goals as goal

pub push_cell-requires : goal.push_cell-requires
push_cell-requires c = record {
  numbers = part_has_numbers c.as_str.result.now (value_view c.args.value.now) c.get.result c.requires.numbers c.get.ensures;
}

pub returns : goal.returns
returns c =
    whole_row c.args.null.now c.args.self.now.names.keys c.as_slice-name-items.result.now (value_view c.args.value.now) c.loop-name.name-index (fields_of c.loop-name.row)
    c.as_slice-name-items.ensures.keys (omega arith) c.loop-name.invariant
