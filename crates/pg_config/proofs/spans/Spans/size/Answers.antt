use Rattle.std.proofs.Common.{◌<◌, ◌^◌, unwrap_or, sym, ap, subst, ◌∙◌, arith}
use Rattle.pg_layout.specs.Places.{Each}
use Rattle.pg_config.specs.Inside.{HasSpan}
use Rattle.pg_config.specs.Spans.{span_size, size_of}
use Rattle.pg_config.proofs.CoveredPlaces.{no-size-outside}
use Rattle.pg_config.proofs.spans.Spans.size.Goals as goal

pub returns : goal.returns
unfolding size_of
returns g c =
    let fits : c.args.pos.row < 2 ^ 64 = omega (arith, c.well_formed) in
    sym (ap (λ kept. unwrap_or kept (span_size 1 1)) (no-size-outside c.self.inside.extent c.args.pos c.args.self.now fits (subst (Each (HasSpan c.self.inside.extent)) c.self.view_is c.self.invariant) (sym c.holds.ensures ∙ c.if-holds.false)))
