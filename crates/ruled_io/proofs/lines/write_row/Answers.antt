use Rattle.std.proofs.Common.{◌≡◌, ◌∙◌, ◌++◌, ◌∷◌, [], Err, Result, false, string_bytes, refl, sym, ap, subst}
use Rattle.std.specs.Prelude.{is_ok}
use Rattle.csv.specs.Records.{fields_of}
use Rattle.ruled_table.specs.RowLines.{HasNoRoom, TellsRoom}
use Rattle.ruled_table.specs.declared.view.ViewFault.{ViewFault}
use Rattle.ruled_io.specs.Faults.{is_read}
use Rattle.ruled_io.specs.declared.fault.RunFault.{RunFault}
use Rattle.ruled_io.proofs.Shows.{writes-only}
use Rattle.ruled_io.proofs.Tables.{handed, of-err, of-ok, row-cut, row-refused, row-waits, waits-none, waits-written}
use Rattle.ruled_io.proofs.lines.write_row.Goals as goal

pub returns-then-len-lt-MANY-clause-after : goal.returns-then-len-lt-MANY-clause-after
returns-then-len-lt-MANY-clause-after g c = λ options plan above has.
    of-ok c.push-pushed.result _ (c.push-pushed.ensures.after options plan above has) (sym c.is_ok.ensures.value ∙ c.if-is_ok.true)

pub returns-then-len-lt-MANY-clause-written : goal.returns-then-len-lt-MANY-clause-written
returns-then-len-lt-MANY-clause-written g c = λ options plan above rows old has waits.
    row-waits options plan above rows (fields_of c.args.fields.now) old (g.W.Write.contents c.args.out.now.writer) (string_bytes c.args.buf.now) (string_bytes c.push-pushed.new.buf)
    (of-ok c.push-pushed.result _ (c.push-pushed.ensures.lines options plan (above ++ rows) has) (sym c.is_ok.ensures.value ∙ c.if-is_ok.true)) waits

pub returns-in_err-write-clause-failed : goal.returns-in_err-write-clause-failed
returns-in_err-write-clause-failed g c = λ options plan above rows old has waits.
    row-cut options plan above rows (fields_of c.args.fields.now) c.args.table.now old (g.W.Write.contents c.args.out.now.writer) (g.W.Write.contents c.write.new.self.writer) (string_bytes c.args.buf.now)
    (string_bytes c.push-pushed.new.buf) c.as_bytes.result.now c.push-pushed.result c.in_err-write.field-0.0 c.from_residual.result c.from_residual.ensures.1 (c.in_err-write.ensures.failed c.in_err-write.field-0.0 refl)
    c.as_bytes.ensures.value has (c.push-pushed.ensures.lines options plan (above ++ rows) has) c.push-pushed.ensures.failed waits c.in_err-write.ensures.begun

pub returns-in_err-write-clause-writes : goal.returns-in_err-write-clause-writes
returns-in_err-write-clause-writes g c =
    let failed : Result (Unit {0}) RunFault = Err c.in_err-write.field-0.0 in
    handed (λ (fault : RunFault). is_read fault ≡ false) c.in_err-write.field-0.0 c.from_residual.result c.from_residual.ensures.1 (writes-only failed c.in_err-write.ensures.failed)

pub returns-in_err-pushed-clause-failed : goal.returns-in_err-pushed-clause-failed
returns-in_err-pushed-clause-failed g c = λ options plan above rows old has waits.
    let row = fields_of c.args.fields.now in
    let mid = g.W.Write.contents c.args.out.now.writer in
    let new = g.W.Write.contents c.write.new.self.writer in
    let same = c.as_bytes.ensures.value ∙ of-err c.push-pushed.result _ c.in_err-pushed.field-0.0 c.push-pushed.ensures.failed c.in_err-pushed.was in
    row-refused options plan above rows row c.args.table.now old new c.in_err-pushed.field-0.0 c.from_residual-in_err-pushed.result c.from_residual-in_err-pushed.ensures.1 has
    (waits-written options plan above rows old mid new (string_bytes c.args.buf.now) c.as_bytes.result.now same waits c.in_ok-write.ensures.written)
    (subst (λ (pushed : Result (Unit {0}) ViewFault). TellsRoom (HasNoRoom options plan (above ++ rows) row) pushed) c.in_err-pushed.was (c.push-pushed.ensures.room options plan (above ++ rows) has))

pub returns-clause-after : goal.returns-clause-after
returns-clause-after g c = λ options plan above has. of-ok c.push-pushed.result _ (c.push-pushed.ensures.after options plan above has) (ap is_ok c.in_ok-pushed.was)

pub returns-clause-written : goal.returns-clause-written
returns-clause-written g c = λ options plan above rows old has waits.
    let row = fields_of c.args.fields.now in
    let mid = g.W.Write.contents c.args.out.now.writer in
    let new = g.W.Write.contents c.write.new.self.writer in
    let longer = string_bytes c.push-pushed.new.buf in
    let grows = of-ok c.push-pushed.result _ (c.push-pushed.ensures.lines options plan (above ++ rows) has) (ap is_ok c.in_ok-pushed.was) in
    waits-none options plan above (rows ++ row ∷ []) old new _ c.clear.ensures.bytes
    (waits-written options plan above (rows ++ row ∷ []) old mid new longer c.as_bytes.result.now c.as_bytes.ensures.value
    (row-waits options plan above rows row old mid (string_bytes c.args.buf.now) longer grows waits) c.in_ok-write.ensures.written)
