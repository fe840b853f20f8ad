use Rattle.std.proofs.Common.{ap, ◌∙◌}
use Rattle.std.specs.Int.{from_bool}
use Rattle.pg_config.specs.Config.{has_vertical}
use Rattle.pg_config.proofs.CoveredPlaces.{found-more}
use Rattle.pg_config.proofs.spanned.SpannedConfig.count_verticals.Goals as goal

pub loop-step-preserved : goal.loop-step-preserved
loop-step-preserved g c =
    found-more (λ line. has_vertical c.args.self.now line c.args.columns) c.args.first c.loop-step.step c.loop-step.invariant (c.from-found.ensures ∙ ap from_bool c.has_vertical.ensures)
