use Rattle.std.proofs.Common.{◌≡◌, ◌∙◌, ℕ, ap, ap₂, arith, refl}
use Rattle.pg_layout.specs.declared.position.Position.{Position}
use Rattle.pg_layout.specs.Position.{at}
use Rattle.pg_layout.specs.Records.{text_at}
use Rattle.pg_layout.specs.Text.{Text}
use Rattle.pg_config.specs.Config.{Config}
use Rattle.pg_table.specs.Numbers.{lacking}
use Rattle.pg_table.specs.OwnRows.{longest_rest}
use Rattle.pg_table.proofs.Setters.{points-aligned, weaker, widened-first, widened-more}
use Rattle.pg_table.proofs.table.settings.align_points.Goals as goal

pub loop-row-init : goal.loop-row-init
loop-row-init g c = record {
  widened = widened-first (g.R.Records.texts c.args.records.now) c.args.from c.args.column c.args.config.now;
  others = refl;
  bound = omega arith;
}

pub loop-row-preserved : goal.loop-row-preserved
loop-row-preserved g c =
    let texts = g.R.Records.texts c.args.records.now in
    let lacks : c.lacking.result ≡ lacking (longest_rest texts c.args.from c.args.column) (text_at texts c.new-pos.result) =
    c.lacking.ensures ∙ ap₂ (λ (rest : ℕ) (text : Text). lacking rest text) c.longest_rest-rest.ensures c.get_text.ensures in
    record {
      widened = widened-more texts c.args.from c.args.column c.loop-row.row c.args.config.now c.loop-row.config c.widen_right.new.config c.loop-row.auto.row c.loop-row.invariant.widened c.new-pos.result c.new-pos.ensures c.lacking.result lacks c.in_ok-widen_right.ensures.padding;
      others = c.in_ok-widen_right.ensures.others ∙ ap (λ (k : Config). let told : Config = record k { padding = c.widen_right.new.config.padding } in told) c.loop-row.invariant.others;
      bound = omega arith;
    }

pub returns : goal.returns
returns g c =
    let texts = g.R.Records.texts c.args.records.now in
    weaker c.set_alignment_horizontal.result
    (points-aligned texts c.args.from c.args.column c.loop-row.row c.args.config.now c.loop-row.config c.set_alignment_horizontal.new.self (omega (arith, c.loop-row-test.false, c.count_rows-row-end.ensures)) c.loop-row.invariant.bound c.loop-row.invariant.widened c.loop-row.invariant.others)
    c.set_alignment_horizontal.ensures.ok
