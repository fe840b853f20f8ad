use Rattle.std.proofs.Common.{◌∙◌}
use Rattle.csv.specs.Records.{fields_of}
use Rattle.ruled_table.proofs.LentTexts.{beside-at, name-at}
use Rattle.ruled_table.proofs.paired_rows.PairedRows.text_at.Goals as goal

pub returns-then-pos-eq0 : goal.returns-then-pos-eq0
returns-then-pos-eq0 c =
    c.text_in.ensures
    ∙ name-at (fields_of c.args.self.now.names.now) (fields_of c.args.self.now.fields.now) c.args.self.now.places.now c.args.pos.row c.args.pos.col c.requires.row c.if-pos-eq0.true

pub returns : goal.returns
returns c =
    c.text_in-2.ensures
    ∙ beside-at (fields_of c.args.self.now.names.now) (fields_of c.args.self.now.fields.now) c.args.self.now.places.now c.args.pos.row c.args.pos.col c.requires.row c.requires.column c.if-pos-eq0.false
