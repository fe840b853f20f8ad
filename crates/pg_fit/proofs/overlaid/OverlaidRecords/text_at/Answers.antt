use Rattle.std.proofs.Common.{sym, ◌∙◌, arith}
use Rattle.pg_fit.proofs.OverlaidTexts.{length-overlaid, text_at-overlaid}
use Rattle.pg_fit.proofs.overlaid.OverlaidRecords.text_at.Goals as goal

pub other_text-requires-clause-row : goal.other_text-requires-clause-row
other_text-requires-clause-row g c = omega (arith, c.requires.row, length-overlaid g.R.Records.texts g.R.Records.columns c.args.self.now)

pub returns : goal.returns
returns g c =
    let texts = g.R.Records.texts in
    let columns = g.R.Records.columns in
    let o = c.args.self.now in
    c.other_text.ensures ∙ sym (text_at-overlaid texts columns o c.args.pos (omega (arith, c.requires.row, length-overlaid texts columns o)) c.requires.column)
