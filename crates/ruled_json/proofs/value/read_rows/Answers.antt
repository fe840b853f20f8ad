use Rattle.std.proofs.Common.{◌≡◌, ◌∙◌, ℕ, List, None, Some, String, Global, ap, sym, subst, map, string_bytes, eqb-true}
use Rattle.std.specs.Prelude.{IfOk}
use Rattle.std.proofs.lemmas.List.{nil_from_length}
use Rattle.csv.specs.Records.{fields_of}
use Rattle.json.specs.Value.{value_view}
use Rattle.ruled_json.specs.Faults.{but_line, rows_fault}
use Rattle.ruled_json.specs.Rows.{member_at, rules_of}
use Rattle.ruled_json.proofs.Views.{handed_on, member_has_numbers, member_lacks, member_rows, member_told, nothing_told, text_told}
use Rattle.ruled_json.proofs.value.read_rows.Goals as goal

pub returns-then-is_empty-clause-fault : goal.returns-then-is_empty-clause-fault
returns-then-is_empty-clause-fault c = λ _.
    let path = map string_bytes c.args.rules.now.path.items in
    ap (rows_fault path) (nil_from_length c.args.bytes.now (eqb-true _ 0 (sym c.is_empty.ensures ∙ c.if-is_empty.true))) ∙ nothing_told path

pub returns-in_err-value-clause-fault : goal.returns-in_err-value-clause-fault
returns-in_err-value-clause-fault c =
    let path = map string_bytes c.args.rules.now.path.items in
    let bytes = c.args.bytes.now in
    let fault = c.in_err-value.field-0.0 in
    handed_on (rows_fault path bytes) fault c.from_residual.result (λ counts. text_told path bytes (but_line fault) (c.in_err-value.ensures.fault counts)) c.from_residual.ensures.1

pub rows_in-requires : goal.rows_in-requires
rows_in-requires c =
    let value = value_view c.in_ok-value.value in
    let at : Some (value_view c.in-Some.member.now) ≡ member_at (map string_bytes c.args.rules.now.path.items) value =
    c.in-Some.ensures ∙ ap (λ (path : List (String Global)). member_at (map string_bytes path) value) c.deref.ensures.value in
    record { numbers = member_has_numbers (map string_bytes c.args.rules.now.path.items) value (value_view c.in-Some.member.now) c.in_ok-value.ensures.numbers at }

pub returns-in-Some-clause-rows : goal.returns-in-Some-clause-rows
returns-in-Some-clause-rows c =
    let value = value_view c.in_ok-value.value in
    let rules = rules_of c.args.rules.now in
    let at : Some (value_view c.in-Some.member.now) ≡ member_at rules.path value =
    c.in-Some.ensures ∙ ap (λ (path : List (String Global)). member_at (map string_bytes path) value) c.deref.ensures.value in
    let is = member_rows rules c.args.bytes.now value (value_view c.in-Some.member.now) c.in_ok-value.ensures.value at in
    subst (λ (all : List (List (List ℕ))). IfOk c.rows_in.result (λ rows. map fields_of rows.items ≡ all)) (sym is) c.rows_in.ensures.rows

pub returns-in-Some-clause-fault : goal.returns-in-Some-clause-fault
returns-in-Some-clause-fault c =
    let path = map string_bytes c.args.rules.now.path.items in
    let value = value_view c.in_ok-value.value in
    let at : Some (value_view c.in-Some.member.now) ≡ member_at path value =
    c.in-Some.ensures ∙ ap (λ (p : List (String Global)). member_at (map string_bytes p) value) c.deref.ensures.value in
    member_told path c.args.bytes.now value c.in_ok-value.ensures.fault c.in_ok-value.ensures.value (value_view c.in-Some.member.now) c.rows_in.result at c.rows_in.ensures.fault

pub returns-clause-fault : goal.returns-clause-fault
returns-clause-fault c = λ _.
    let path = map string_bytes c.args.rules.now.path.items in
    let value = value_view c.in_ok-value.value in
    let at : None ≡ member_at path value = c.in-None.ensures ∙ ap (λ (p : List (String Global)). member_at (map string_bytes p) value) c.deref.ensures.value in
    member_lacks path c.args.bytes.now value c.in_ok-value.ensures.fault c.in_ok-value.ensures.value at
