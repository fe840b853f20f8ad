use Rattle.std.proofs.Common.{sym, ap, ◌∙◌}
use Rattle.pg_config.specs.Config.{Config}
use Rattle.pg_table.specs.OwnRows.{with_run}
use Rattle.pg_table.proofs.Rearranged.{one_run_more}
use Rattle.pg_table.proofs.table.merging.merge_runs.Goals as goal

pub loop-row-preserved : goal.loop-row-preserved
loop-row-preserved g c =
    let texts = g.R.Records.texts c.args.records.now in
    let more = one_run_more (with_run texts c.args.column) c.args.config.now.spans c.loop-row.row in
    record {
      spans = c.in_ok-merge_run.ensures.spans
          ∙ ap (λ (config : Config). record config { spans = with_run texts c.args.column config.spans c.loop-row.row }) c.loop-row.invariant.spans
          ∙ ap (λ spans. record c.args.config.now { spans = spans }) (sym more);
      narrow = λ look. c.in_ok-merge_run.ensures.narrow (c.loop-row.invariant.narrow look);
    }
