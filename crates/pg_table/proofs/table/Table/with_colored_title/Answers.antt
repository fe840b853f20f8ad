use Rattle.std.proofs.Common.{◌≡◌, Ok, Err, sym, ap, ◌∙◌}
use Rattle.std.specs.Prelude.{Result, unwrap_or}
use Rattle.std.specs.Result.{IsErrAnd, is_ok, result_err}
use Rattle.std.proofs.lemmas.Bool.{false≢true}
use Rattle.pg_table.specs.declared.fault.TableFault.{TableFault}
use Rattle.pg_table.proofs.table.Table.with_colored_title.Goals as goal

-- what the exit of a `?` returns
passed_on : {X : Type 0} (result : Result X TableFault) (found : TableFault) → IsErrAnd result (λ fault. fault ≡ found) → result ≡ Err found
passed_on (Ok x) found told = absurd told
passed_on (Err fault) found told = ap (λ e. Err e) told

pub returns-in_err-dimension-clause-fault : goal.returns-in_err-dimension-clause-fault
returns-in_err-dimension-clause-fault g c fault found =
    passed_on c.from_residual.result c.in_err-dimension.field-0.0 c.from_residual.ensures.1
    ∙ ap (λ r. Err (unwrap_or (result_err r) fault)) (c.in_err-dimension.ensures.fault fault found)

pub returns-in_err-dimension-clause-memory : goal.returns-in_err-dimension-clause-memory
returns-in_err-dimension-clause-memory g c fault none is =
    c.in_err-dimension.ensures.memory fault none
    (ap (λ r. Err (unwrap_or (result_err r) fault)) (sym (passed_on c.from_residual.result c.in_err-dimension.field-0.0 c.from_residual.ensures.1) ∙ is))

pub returns-in_err-with_colored_title_at-clause-fault : goal.returns-in_err-with_colored_title_at-clause-fault
returns-in_err-with_colored_title_at-clause-fault g c fault found = absurd (false≢true (sym (ap is_ok (c.in_ok-dimension.ensures.fault fault found))))

pub returns-then-shows_title-clause-fault : goal.returns-then-shows_title-clause-fault
returns-then-shows_title-clause-fault g c fault found = absurd (false≢true (sym (ap is_ok (c.in_ok-dimension.ensures.fault fault found))))
