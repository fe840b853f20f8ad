use Rattle.std.proofs.Common.{ap, sym, map, ◌∙◌}
use Rattle.json.specs.Value.{value_view}
use Rattle.json.proofs.Trees.{view-Array}
use Rattle.ruled_json.specs.Faults.{first_fault, value_fault}
use Rattle.ruled_json.specs.Rows.{records_in}
use Rattle.ruled_json.proofs.Views.{handed_on, list_view}
use Rattle.ruled_json.proofs.value.records_in.Goals as goal

pub returns-in_err-check_records-in-Array-clause-fault :
    goal.returns-in_err-check_records-in-Array-clause-fault
returns-in_err-check_records-in-Array-clause-fault c =
    let fault = c.in_err-check_records-in-Array.field-0.0 in
    let is =
    ap value_fault (ap value_view c.in-Array.is ∙ view-Array c.in-Array.values) ∙ ap (first_fault 1) (sym (list_view c.in-Array.values.items))
    ∙ ap (λ vs. first_fault 1 (map value_view vs)) (sym c.deref.ensures.value)
    in
    handed_on (value_fault (value_view c.args.value.now)) fault c.from_residual.result (λ counts. is ∙ c.in_err-check_records-in-Array.ensures counts) c.from_residual.ensures.1

pub returns-in_ok-check_records-in-Array-clause-records :
    goal.returns-in_ok-check_records-in-Array-clause-records
returns-in_ok-check_records-in-Array-clause-records c =
    ap (map value_view) c.as_slice.ensures.value ∙ list_view c.in-Array.values.items ∙ sym (ap records_in (ap value_view c.in-Array.is ∙ view-Array c.in-Array.values))

pub returns-in_ok-check_records-in-Array-clause-fault :
    goal.returns-in_ok-check_records-in-Array-clause-fault
returns-in_ok-check_records-in-Array-clause-fault c =
    ap value_fault (ap value_view c.in-Array.is ∙ view-Array c.in-Array.values) ∙ ap (first_fault 1) (sym (list_view c.in-Array.values.items))
    ∙ ap (λ vs. first_fault 1 (map value_view vs)) (sym c.deref.ensures.value) ∙ c.in_ok-check_records-in-Array.ensures
