use Rattle.std.proofs.Common.{Err, Result, refl}
use Rattle.ruled_io.specs.declared.fault.RunFault.{RunFault}
use Rattle.ruled_io.specs.declared.fault.RunFault.TheVariants.{Input}
use Rattle.ruled_io.proofs.Shows.{writes-only}
use Rattle.ruled_io.proofs.Tables.{end-refused, end-written, end-wrong}
use Rattle.ruled_io.proofs.lines.write_end.Goals as goal

pub returns-in-Some-clause-ends : goal.returns-in-Some-clause-ends
returns-in-Some-clause-ends g c = λ options plan rows has. let r : Result (Unit {0}) RunFault = Err (Input c.in-Some.fault) in end-wrong options plan rows c.args.wrong c.in-Some.fault (g.W.Write.contents c.args.out.now.writer) r c.in-Some.is refl

pub returns-in_err-finish-clause-ends : goal.returns-in_err-finish-clause-ends
returns-in_err-finish-clause-ends g c = λ options plan rows has.
    end-refused options plan rows c.args.table c.args.wrong (g.W.Write.contents c.args.out.now.writer) c.in_err-finish.field-0.0 c.from_residual.result c.in_default.is has c.from_residual.ensures.1
    (c.in_err-finish.ensures.fault options plan rows has c.in_err-finish.field-0.0 refl)

pub returns-clause-ends : goal.returns-clause-ends
returns-clause-ends g c = λ options plan rows has.
    end-written options plan rows c.args.wrong (g.W.Write.contents c.args.out.now.writer) (g.W.Write.contents c.write.new.self.writer) c.as_bytes.result.now _ _ c.write.result c.in_default.is
    c.as_bytes.ensures.value c.clear.ensures.bytes (c.in_ok-finish.ensures.end options plan rows has) c.write.ensures.written c.write.ensures.begun c.write.ensures.failed

pub returns-clause-writes : goal.returns-clause-writes
returns-clause-writes g c = writes-only c.write.result c.write.ensures.failed
