use Rattle.std.proofs.Common.{◌≡◌, refl, sym, ap, subst, ◌∙◌, arith}
use Rattle.std.specs.Prelude.{IsOk, IsSome}
use Rattle.pg_layout.specs.Places.{value_at, exchanged}
use Rattle.pg_layout.proofs.KeyedPlaces.{order-laws}
use Rattle.pg_config.specs.Inside.{taken_back, CanTakeBack}
use Rattle.pg_config.proofs.Lookups.{taken_back-last, CanTakeBack-more, given_is_there}
use Rattle.pg_config.proofs.noted_places.NotedPlaces.put.Goals as goal

pub returns-clause-before : goal.returns-clause-before
returns-clause-before g c =
    let room : IsOk c.push-noted.result = c.push-noted.ensures.succeeds (omega (arith, c.in_ok-reserve.ensures.ok)) in
    let back : exchanged g.K.Key.order c.args.key c.in_ok-held.held c.exchange.new.self ≡ c.self.inside.places = c.in_ok-held.ensures.back in
    rw (c.push-noted.ensures.items, room, c.reserve.ensures.items)
    (taken_back-last g.K.Key.order c.args.key c.in_ok-held.held c.exchange.new.self c.self.inside.held.items
    ∙ ap (λ es. taken_back g.K.Key.order c.self.inside.held.items es) back
    ∙ ap (λ n. n.before) c.self.view_is)

pub invariant_of-self-2 : goal.invariant_of-self-2
invariant_of-self-2 g c =
    let room : IsOk c.push-noted.result = c.push-noted.ensures.succeeds (omega (arith, c.in_ok-reserve.ensures.ok)) in
    let there : IsSome c.in_ok-held.held → IsSome (value_at g.K.Key.order c.args.key c.exchange.new.self) = λ s. rw (c.in_ok-held.ensures.ok, given_is_there (order-laws g.met.K.Ord.total g.met.K.Key.orders) c.args.key c.in-Some.value c.self.inside.places) refl in
    let can = subst (λ es. CanTakeBack g.K.Key.order c.self.inside.held.items es) (sym c.in_ok-held.ensures.back) c.self.invariant in
    let more : CanTakeBack g.K.Key.order c.push-noted.new.self.items c.exchange.new.self = rw (c.push-noted.ensures.items, room, c.reserve.ensures.items) (CanTakeBack-more g.K.Key.order c.args.key c.in_ok-held.held c.exchange.new.self c.self.inside.held.items there can) in
    more
