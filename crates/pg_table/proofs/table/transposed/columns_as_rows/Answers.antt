use Rattle.std.proofs.Common.{ap, map, length, ◌∙◌}
use Rattle.std.specs.List.{range_with_len}
use Rattle.pg_layout.specs.Position.{at}
use Rattle.pg_layout.specs.Records.{text_at}
use Rattle.pg_table.proofs.Rearranged.{pushed}
use Rattle.pg_table.proofs.table.transposed.columns_as_rows.Goals as goal

pub loop-column-preserved : goal.loop-column-preserved
loop-column-preserved g c =
    let texts = g.R.Records.texts c.args.records.now in
    ap (λ xs. map (λ row. map (λ text. text.now) row.items) xs) c.in_ok-push.ensures.items
    ∙ pushed (λ row. map (λ text. text.now) row.items) c.loop-column.rows.items c.in_ok-texts.texts (λ k. map (λ r. text_at texts (at r k)) (range_with_len 0 (length texts))) c.loop-column.column c.loop-column.invariant c.in_ok-texts.ensures
