use Rattle.std.proofs.Common.{ap}
use Rattle.std.specs.Result.{result_err}
use Rattle.pg_stream.proofs.printer.MakingPrinters.{told-alike}
use Rattle.pg_stream.proofs.stream.row_stream.RowStream.new.Goals as goal

pub returns-in-Ok-clause-misfit : goal.returns-in-Ok-clause-misfit
returns-in-Ok-clause-misfit g c = told-alike _ c.try_new.result _ (ap result_err c.in-Ok.is) c.try_new.ensures.misfit

pub returns-in-Err-clause-misfit : goal.returns-in-Err-clause-misfit
returns-in-Err-clause-misfit g c = told-alike _ c.try_new.result _ (ap result_err c.in-Err.is) c.try_new.ensures.misfit
