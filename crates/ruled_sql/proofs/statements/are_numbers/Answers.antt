use Rattle.std.proofs.Common.{◌≡◌, ◌∙◌, ◌≤◌, true, false, Bool, length, refl, sym, ap, get_or, arith, rules}
use Rattle.std.specs.List.{list_all}
use Rattle.std.proofs.lemmas.List.{take_all}
use Rattle.std.proofs.lemmas.List.Folds.{list_all-map, list_all_at, list_all_more}
use Rattle.csv.specs.Records.{Row, field_at, fields_of}
use Rattle.ruled_sql.specs.Filled.{may_be_number}
use Rattle.ruled_sql.proofs.statements.are_numbers.Goals as goal

pub loop-fields-preserved : goal.loop-fields-preserved
loop-fields-preserved c =
    let passes : Row → Bool = λ (fields : Row). may_be_number (field_at (fields_of fields) c.args.place) in
    let records = c.args.records.now in
    let i = c.loop-fields.fields-index in
    let passed : c.may_be_number.result ≡ true = search rules in
    let is : passes (get_or records i c.fields-item.result) ≡ true = ap passes (sym c.fields-item.is) ∙ sym (c.may_be_number.ensures ∙ ap may_be_number c.get.ensures.value) ∙ passed in
    list_all_more passes records i c.fields-item.result (omega arith) ∙ rw (c.loop-fields.invariant, is) refl

pub returns-then-not-may_be_number : goal.returns-then-not-may_be_number
returns-then-not-may_be_number c =
    let passes : Row → Bool = λ (fields : Row). may_be_number (field_at (fields_of fields) c.args.place) in
    let records = c.args.records.now in
    let i = c.loop-fields.fields-index in
    let failed : c.may_be_number.result ≡ false = search rules in
    let is : passes (get_or records i c.fields-item.result) ≡ false = ap passes (sym c.fields-item.is) ∙ sym (c.may_be_number.ensures ∙ ap may_be_number c.get.ensures.value) ∙ failed in
    sym (list_all-map (λ fields. may_be_number (field_at fields c.args.place)) fields_of records ∙ list_all_at passes records i c.fields-item.result (omega arith) is)

pub returns : goal.returns
returns c =
    let passes : Row → Bool = λ (fields : Row). may_be_number (field_at (fields_of fields) c.args.place) in
    let records = c.args.records.now in
    let past : length records ≤ c.loop-fields.fields-index = omega arith in
    let whole = take_all c.loop-fields.fields-index records past in
    sym (list_all-map (λ fields. may_be_number (field_at fields c.args.place)) fields_of records ∙ ap (list_all passes) (sym whole) ∙ c.loop-fields.invariant)
