use Rattle.std.proofs.Common.{None, sym, ap, subst, ◌∙◌}
use Rattle.pg_layout.specs.Places.{IsAscending, value_at, without_place}
use Rattle.pg_layout.proofs.KeyedPlaces.{order-laws, IsAscending-filter, exchanged-back}
use Rattle.pg_layout.proofs.PlacesInTrees.{remove-key, lookup-key}
use Rattle.pg_layout.proofs.places.Places.take.Goals as goal

pub returns-clause-now : goal.returns-clause-now
returns-clause-now g c = c.remove.ensures.entries ∙ remove-key g.met.K.Ord.total g.met.K.Key.orders c.args.key c.self.inside.entries.entries c.self.invariant ∙ ap (λ es. without_place g.K.Key.order c.args.key es) c.self.view_is

pub returns-clause-old : goal.returns-clause-old
returns-clause-old g c =
    c.remove.ensures.value ∙ lookup-key g.met.K.Ord.total g.met.K.Key.orders c.args.key c.self.inside.entries.entries ∙ ap (λ es. value_at g.K.Key.order c.args.key es) c.self.view_is

pub returns-clause-back : goal.returns-clause-back
returns-clause-back g c =
    rw (returns-clause-old g c, returns-clause-now g c) (exchanged-back (order-laws g.met.K.Ord.total g.met.K.Key.orders) c.args.key None c.args.self.now (subst (IsAscending g.K.Key.order) c.self.view_is c.self.invariant))

pub invariant_of-self : goal.invariant_of-self
invariant_of-self g c = subst (IsAscending g.K.Key.order) (sym (returns-clause-now g c)) (IsAscending-filter (order-laws g.met.K.Ord.total g.met.K.Key.orders) _ _ (subst (IsAscending g.K.Key.order) c.self.view_is c.self.invariant))
