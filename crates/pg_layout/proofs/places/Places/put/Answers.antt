use Rattle.std.proofs.Common.{◌≡◌, Some, None, is_some, sym, ap, subst, ◌∙◌}
use Rattle.std.proofs.lemmas.Bool.{false≢true}
use Rattle.pg_layout.specs.Places.{IsAscending, value_at, with_place}
use Rattle.pg_layout.proofs.KeyedPlaces.{order-laws, IsAscending-with_place, exchanged-back}
use Rattle.pg_layout.proofs.PlacesInTrees.{insert-key, lookup-key}
use Rattle.pg_layout.proofs.places.Places.put.Goals as goal

pub returns-clause-ok : goal.returns-clause-ok
returns-clause-ok g c = c.in_ok-insert.ensures.entries ∙ insert-key g.met.K.Ord.total g.met.K.Key.orders c.args.key c.args.value c.self.inside.entries.entries ∙ ap (λ es. with_place g.K.Key.order c.args.key c.args.value es) c.self.view_is

pub returns-clause-old : goal.returns-clause-old
returns-clause-old g c =
    c.in_ok-insert.ensures.old ∙ lookup-key g.met.K.Ord.total g.met.K.Key.orders c.args.key c.self.inside.entries.entries ∙ ap (λ es. value_at g.K.Key.order c.args.key es) c.self.view_is

pub returns-clause-back : goal.returns-clause-back
returns-clause-back g c =
    rw (returns-clause-old g c, returns-clause-ok g c) (exchanged-back (order-laws g.met.K.Ord.total g.met.K.Key.orders) c.args.key (Some c.args.value) c.args.self.now (subst (IsAscending g.K.Key.order) c.self.view_is c.self.invariant))

pub invariant_of-self-2 : goal.invariant_of-self-2
invariant_of-self-2 g c = subst (IsAscending g.K.Key.order) (sym (returns-clause-ok g c)) (IsAscending-with_place (order-laws g.met.K.Ord.total g.met.K.Key.orders) c.args.key c.args.value _ (subst (IsAscending g.K.Key.order) c.self.view_is c.self.invariant))

pub returns-in_err-insert-clause-old_key : goal.returns-in_err-insert-clause-old_key
returns-in_err-insert-clause-old_key g c some =
    let none : value_at g.K.Key.order c.args.key c.args.self.now ≡ None = ap (λ es. value_at g.K.Key.order c.args.key es) (sym c.self.view_is) ∙ sym (lookup-key g.met.K.Ord.total g.met.K.Key.orders c.args.key c.self.inside.entries.entries) ∙ c.in_err-insert.ensures.absent in
    absurd (false≢true (sym (ap is_some none) ∙ some))
