use Rattle.std.proofs.Common.{◌≡◌, Some, true, refl, arith, rules}
use Rattle.csv.specs.Records.{fields_of}
use Rattle.json.specs.Value.{value_view}
use Rattle.ruled_json.specs.Rows.{cell_text}
use Rattle.ruled_json.proofs.Flat.{member-numbers}
use Rattle.ruled_json.proofs.Tables.{made_next, name-next, whole-ordered}
use Rattle.ruled_json.proofs.member_names.MemberNames.ordered_row.Goals as goal

pub push_cell-requires : goal.push_cell-requires
push_cell-requires c = record {
  numbers = member-numbers c.members_of-members.result.now c.loop-at.at c.index-members-at.result (omega arith) c.index-members-at.is (c.members_of-members.ensures.numbers c.requires.numbers);
}

pub loop-at-preserved : goal.loop-at-preserved
loop-at-preserved c =
    let ms = c.members_of-members.result.now in
    let m = c.index-members-at.result in
    let holds : c.is_text.result ≡ true = search rules in
    record {
      named = name-next ms c.as_slice-names.result.now c.loop-at.at m c.index-names-at.result _ c.is_text.result (omega arith) c.index-members-at.is (omega arith) c.index-names-at.is
          c.as_str.ensures.value c.is_text.ensures holds c.loop-at.invariant.named;
      row = made_next (λ m. cell_text c.args.null.now (Some (value_view m.1))) ms c.loop-at.at m (fields_of c.loop-at.row) (fields_of c.push_cell.new.row) _ (omega arith) c.index-members-at.is
          c.in_ok-push_cell.ensures refl c.loop-at.invariant.row;
    }

pub returns-clause-row : goal.returns-clause-row
returns-clause-row c =
    whole-ordered c.args.null.now c.args.self.now.names.keys c.as_slice-names.result.now (value_view c.args.value.now) c.members_of-members.result.now c.loop-at.at (fields_of c.loop-at.row)
    c.as_slice-names.ensures.keys (omega arith) (omega arith) c.as_slice-names.ensures.unique c.loop-at.invariant.named c.loop-at.invariant.row c.members_of-members.ensures.members
