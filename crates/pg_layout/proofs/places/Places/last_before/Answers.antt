use Rattle.std.proofs.Common.{sym, ap, ◌∙◌}
use Rattle.pg_layout.specs.Places.{last_before}
use Rattle.pg_layout.proofs.PlacesInTrees.{last_before-key, last_of, last_of-end}
use Rattle.pg_layout.proofs.places.Places.last_before.Goals as goal

pub returns-in-Some : goal.returns-in-Some
returns-in-Some g c =
    sym (ap (λ es. last_before g.K.Key.order c.args.key es) (sym c.self.view_is) ∙ last_before-key g.met.K.Ord.total g.met.K.Key.orders c.args.key c.self.inside.entries.entries c.self.invariant ∙ ap last_of (sym (c.range-entries.ensures.between _) ∙ c.in-Some.ensures.steps) ∙ last_of-end _ _)

pub returns-in-None : goal.returns-in-None
returns-in-None g c =
    sym (ap (λ es. last_before g.K.Key.order c.args.key es) (sym c.self.view_is) ∙ last_before-key g.met.K.Ord.total g.met.K.Key.orders c.args.key c.self.inside.entries.entries c.self.invariant ∙ ap last_of (sym (c.range-entries.ensures.between _) ∙ c.in-None.ensures.steps.0))
