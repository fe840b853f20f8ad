use Rattle.std.proofs.Common.{Err, sym, ap}
use Rattle.std.specs.Prelude.{unwrap_or}
use Rattle.std.specs.Result.{is_ok, result_err}
use Rattle.std.proofs.lemmas.Bool.{false≢true}
use Rattle.pg_table.proofs.table.Table.with_title.Goals as goal

pub returns-in-Ok-clause-fault : goal.returns-in-Ok-clause-fault
returns-in-Ok-clause-fault g c fault found = absurd (false≢true (sym (ap is_ok (c.in-Ok.ensures.fault fault found))))

pub returns-in-Err-clause-fault : goal.returns-in-Err-clause-fault
returns-in-Err-clause-fault g c fault found = ap (λ r. Err (unwrap_or (result_err r) fault)) (c.in-Err.ensures.fault fault found)

pub returns-in-Err-clause-memory : goal.returns-in-Err-clause-memory
returns-in-Err-clause-memory g c fault none is = c.in-Err.ensures.memory fault none (ap (λ r. Err (unwrap_or (result_err r) fault)) is)
