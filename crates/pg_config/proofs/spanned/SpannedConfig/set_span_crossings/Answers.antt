use Rattle.std.proofs.lemmas.Result.{on_ok_weaker}
use Rattle.pg_config.proofs.SpanCrossings.{crossings_set}
use Rattle.pg_config.proofs.spanned.SpannedConfig.set_span_crossings.Goals as goal

pub returns-clause-ok : goal.returns-clause-ok
returns-clause-ok g c =
    on_ok_weaker c.set_crossings.result (λ is.
    crossings_set _ c.args.self.now c.self.view_is c.args.borders c.args.size.0 c.args.size.1 c.spans.result.now c.in_ok-marks.marks c.in_ok-glyphs.glyphs c.set_crossings.new.self c.spans.ensures.all c.in_ok-marks.ensures.marks c.in_ok-glyphs.ensures.glyphs c.stand_in_order.ensures c.stand_in_order-2.ensures c.set_crossings.ensures.ascending is) c.set_crossings.ensures.ok
