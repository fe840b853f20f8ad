use Rattle.std.proofs.Common.{◌++◌, ap, string_bytes, ◌∙◌}
use Rattle.pg_layout.specs.declared.position.Position.{Position}
use Rattle.pg_layout.specs.Position.{at}
use Rattle.pg_config.specs.Config.{get_alignment_horizontal}
use Rattle.pg_table.specs.Markup.{delimiter_of}
use Rattle.pg_table.proofs.Html.{one_more}
use Rattle.pg_table.proofs.table.markdown.push_delimiters.Goals as goal

pub loop-column-preserved : goal.loop-column-preserved
loop-column-preserved g c =
    let column = c.loop-column.column in
    let alignment = c.get_alignment_horizontal-alignment.ensures ∙ ap (λ (p : Position). get_alignment_horizontal c.args.config.now p) c.new.ensures in
    c.in_ok-push_str-2.ensures.bytes
    ∙ ap (λ t. string_bytes c.loop-column.markdown ++ t) (c.delimiter_of.ensures ∙ ap (λ a. delimiter_of a) alignment)
    ∙ ap (λ t. t ++ delimiter_of (get_alignment_horizontal c.args.config.now (at 1 column))) c.loop-column.invariant
    ∙ one_more (λ k. delimiter_of (get_alignment_horizontal c.args.config.now (at 1 k))) _ column
