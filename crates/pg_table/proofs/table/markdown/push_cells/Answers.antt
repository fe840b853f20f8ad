use Rattle.std.proofs.Common.{◌++◌, ap, string_bytes, ◌∙◌}
use Rattle.pg_layout.specs.declared.position.Position.{Position}
use Rattle.pg_layout.specs.Position.{at}
use Rattle.pg_layout.specs.Records.{text_at}
use Rattle.pg_table.specs.Markup.{markdown_cell}
use Rattle.pg_table.proofs.Html.{one_more}
use Rattle.pg_table.proofs.table.markdown.push_cells.Goals as goal

pub loop-column-preserved : goal.loop-column-preserved
loop-column-preserved g c =
    let texts = g.R.Records.texts c.args.records.now in
    let column = c.loop-column.column in
    c.in_ok-push_cell.ensures ∙ ap (λ (p : Position). string_bytes c.loop-column.markdown ++ markdown_cell c.args.config.now (text_at texts) p) c.new.ensures
    ∙ ap (λ t. t ++ markdown_cell c.args.config.now (text_at texts) (at c.args.row column)) c.loop-column.invariant
    ∙ one_more (λ k. markdown_cell c.args.config.now (text_at texts) (at c.args.row k)) _ column
