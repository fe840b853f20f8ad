use Rattle.std.proofs.Common.{◌≡◌, ◌∙◌, ◌++◌, None, string_bytes, ap}
use Rattle.csv.specs.Records.{fields_of}
use Rattle.pg_layout.specs.Text.{Text}
use Rattle.ruled_table.specs.View.{record_block, record_fault}
use Rattle.ruled_io.proofs.Shows.{written-draws}
use Rattle.ruled_io.proofs.at_once.write_block.Goals as goal

pub returns-in-Ok-clause-draws : goal.returns-in-Ok-clause-draws
returns-in-Ok-clause-draws g c = λ options rows has.
    let row = fields_of c.args.fields.now in
    let text : string_bytes c.push.new.buf ≡ record_block options rows row =
    (rw c.in-Ok.is at (c.push.ensures.text options rows has)) ∙ ap (λ (old : Text). old ++ record_block options rows row) c.clear.ensures.bytes
    in
    let fine : record_fault options rows row ≡ None = rw c.in-Ok.is at (c.push.ensures.fault options rows has) in
    written-draws (record_block options rows row) c.as_bytes.result.now (record_fault options rows row) (g.W.Write.contents c.args.out.now.writer) (g.W.Write.contents c.write.new.self.writer) c.write.result
    (c.as_bytes.ensures.value ∙ text) fine c.write.ensures.written c.write.ensures.begun c.write.ensures.failed
