use Rattle.std.proofs.Common.{sym, ap, ◌∙◌}
use Rattle.pg_layout.specs.Places.{next_from}
use Rattle.pg_layout.proofs.PlacesInTrees.{next_from-key, first_of}
use Rattle.pg_layout.proofs.places.Places.next_from.Goals as goal

pub returns-in-Some : goal.returns-in-Some
returns-in-Some g c =
    sym (ap (λ es. next_from g.K.Key.order c.args.key es) (sym c.self.view_is) ∙ next_from-key g.met.K.Ord.total g.met.K.Key.orders c.args.key c.self.inside.entries.entries ∙ ap first_of (sym (c.range-entries.ensures.between _) ∙ c.in-Some.ensures.steps))

pub returns-in-None : goal.returns-in-None
returns-in-None g c =
    sym (ap (λ es. next_from g.K.Key.order c.args.key es) (sym c.self.view_is) ∙ next_from-key g.met.K.Ord.total g.met.K.Key.orders c.args.key c.self.inside.entries.entries ∙ ap first_of (sym (c.range-entries.ensures.between _) ∙ c.in-None.ensures.steps.0))
