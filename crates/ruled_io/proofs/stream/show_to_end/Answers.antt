use Rattle.std.proofs.Common.{◌≡◌, ◌∙◌, Result, Ok, Err, false, true, refl, sym, ap}
use Rattle.std.specs.Result.{IsErrAnd}
use Rattle.std.proofs.lemmas.Bool.{true≢false}
use Rattle.ruled_io.specs.Faults.{is_failure, is_of_write}
use Rattle.ruled_io.specs.declared.fault.RunFault.{RunFault}
use Rattle.ruled_io.proofs.Shows.{write-handed}
use Rattle.ruled_io.proofs.Tables.{write-fails}
use Rattle.ruled_io.proofs.stream.show_to_end.Goals as goal

-- a write that failed isn't what is wrong with an input
silent : {X A : Type 0} (found : RunFault) (result : Result X RunFault) → is_of_write found ≡ true → IsErrAnd result (λ fault. fault ≡ found) → (fault : RunFault) → result ≡ Err fault → is_failure fault ≡ false → A
silent found (Ok x) failed is fault same soft = absurd is
silent found (Err other) failed is fault same soft =
    let e : other ≡ fault = cc in
    absurd (true≢false (sym (write-fails found failed) ∙ (sym (ap is_failure (sym e ∙ is)) ∙ soft)))

pub returns-in_err-flush-clause-early : goal.returns-in_err-flush-clause-early
returns-in_err-flush-clause-early g c = silent c.in_err-flush.field-0.0 c.from_residual.result (c.in_err-flush.ensures.failed c.in_err-flush.field-0.0 refl) c.from_residual.ensures.1

pub returns-in_err-flush-clause-noted : goal.returns-in_err-flush-clause-noted
returns-in_err-flush-clause-noted g c = λ failed noted. write-handed failed c.in_err-flush.field-0.0 c.from_residual.result (c.in_err-flush.ensures.failed c.in_err-flush.field-0.0 refl) c.from_residual.ensures.1
