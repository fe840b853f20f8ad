use Rattle.sqlite.proofs.Callers.{memory_is_clean}
use Rattle.ruled_sql.proofs.filled.run.Goals as goal

pub returns-in-Ok-clause-runs : goal.returns-in-Ok-clause-runs
returns-in-Ok-clause-runs c = (c.in-Ok.field-0, c.in-Ok.ensures.runs (memory_is_clean c.execute.new.self))

pub returns-in-Err-clause-fails : goal.returns-in-Err-clause-fails
returns-in-Err-clause-fails c = (c.execute.new.self, c.in-Err.ensures.runs (memory_is_clean c.execute.new.self))
