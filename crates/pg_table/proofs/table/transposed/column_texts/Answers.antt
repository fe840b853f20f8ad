use Rattle.std.proofs.Common.{ap, map, ◌∙◌}
use Rattle.pg_layout.specs.declared.position.Position.{Position}
use Rattle.pg_layout.specs.Position.{at}
use Rattle.pg_layout.specs.Records.{text_at}
use Rattle.pg_table.proofs.Rearranged.{pushed}
use Rattle.pg_table.proofs.table.transposed.column_texts.Goals as goal

pub loop-row-preserved : goal.loop-row-preserved
loop-row-preserved g c =
    let texts = g.R.Records.texts c.args.records.now in
    let here = c.get_text.ensures ∙ ap (λ (p : Position). text_at texts p) c.new.ensures in
    ap (λ xs. map (λ text. text.now) xs) c.in_ok-push.ensures.items
    ∙ pushed (λ text. text.now) c.loop-row.texts.items c.get_text.result (λ r. text_at texts (at r c.args.column)) c.loop-row.row c.loop-row.invariant here
