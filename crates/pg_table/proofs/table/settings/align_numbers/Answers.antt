use Rattle.std.proofs.Common.{sym, ap, ◌∙◌}
use Rattle.pg_config.specs.Config.{Config}
use Rattle.pg_table.specs.OwnRows.{with_number_right}
use Rattle.pg_table.proofs.Rearranged.{one_run_more}
use Rattle.pg_table.proofs.table.settings.align_numbers.Goals as goal

pub loop-column-preserved : goal.loop-column-preserved
loop-column-preserved g c =
    let texts = g.R.Records.texts c.args.records.now in
    let more = one_run_more (with_number_right texts) c.args.config.now.alignment_horizontal c.loop-column.column in
    c.in_ok-align_number.ensures.ok
    ∙ ap (λ (config : Config). record config { alignment_horizontal = with_number_right texts config.alignment_horizontal c.loop-column.column }) c.loop-column.invariant
    ∙ ap (λ settings. record c.args.config.now { alignment_horizontal = settings }) (sym more)
