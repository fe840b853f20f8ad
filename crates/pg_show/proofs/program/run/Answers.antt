use Rattle.std.proofs.Common.{◌≡◌, Err, None, ap, map, string_bytes}
use Rattle.pg_show.specs.Program.{answer_to}
use Rattle.pg_show.proofs.ScriptTables.{status_of_answer-right}
use Rattle.pg_show.proofs.program.run.Goals as goal

pub returns-in-Ok-clause-answered : goal.returns-in-Ok-clause-answered
returns-in-Ok-clause-answered g c = λ no_failure.
    status_of_answer-right None _ (answer_to (map string_bytes c.args.words.now)) _ (λ is. c.in-Ok.ensures.shown) (λ fault is known. cc) no_failure

pub returns-in-Err-clause-answered : goal.returns-in-Err-clause-answered
returns-in-Err-clause-answered g c = λ no_failure.
    let ended = c.with_fault.ensures.fault in
    status_of_answer-right c.with_fault.result.fault _ (answer_to (map string_bytes c.args.words.now)) (λ text. Unit {0}) (λ is. cc)
    (λ fault is. let same : c.in-Err.fault ≡ fault = cc in c.in-Err.ensures.refused fault (ap Err same)) no_failure
