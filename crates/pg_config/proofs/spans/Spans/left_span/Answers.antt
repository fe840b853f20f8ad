use Rattle.std.proofs.Common.{◌<◌, ◌^◌, sym, subst, ◌∙◌, arith}
use Rattle.pg_layout.specs.Places.{Each}
use Rattle.pg_config.specs.Inside.{HasSpan}
use Rattle.pg_config.proofs.CoveredPlaces.{no-left_span-outside}
use Rattle.pg_config.proofs.spans.Spans.left_span.Goals as goal

pub returns : goal.returns
returns g c =
    let fits : c.args.pos.row < 2 ^ 64 = omega (arith, c.well_formed) in
    sym (no-left_span-outside c.self.inside.extent c.args.pos c.args.self.now fits (subst (Each (HasSpan c.self.inside.extent)) c.self.view_is c.self.invariant) (sym c.holds.ensures ∙ c.if-holds.false))
