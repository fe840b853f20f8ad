use Rattle.std.proofs.Common.{◌∙◌, refl}
use Rattle.ruled_io.proofs.at_once.write_whole.Goals as goal

pub returns-in-Ok-clause-draws : goal.returns-in-Ok-clause-draws
returns-in-Ok-clause-draws g c = λ options plan has. (refl, c.in-Ok.ensures.lines options plan has)

pub returns-in-Err-clause-draws : goal.returns-in-Err-clause-draws
returns-in-Err-clause-draws g c = λ options plan has. (c.fault_in_memory.ensures.read ∙ c.in-Err.ensures.writes, c.fault_in_memory.ensures.late c.in-Err.ensures.writes, c.in-Err.ensures.begun options plan has)
