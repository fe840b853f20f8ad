use Rattle.std.proofs.Common.{◌≡◌, true, is_lt, sym, ap, ◌∙◌}
use Rattle.std.specs.Prelude.{option_map}
use Rattle.pg_layout.specs.Places.{before, next_from}
use Rattle.pg_layout.proofs.PlacesInTrees.{is_lt-key, next_from-past}
use Rattle.pg_layout.proofs.places.Places.find_key_from.Goals as goal

pub returns-then-is_lt : goal.returns-then-is_lt
returns-then-is_lt g c =
    let stands : before g.K.Key.order c.in_ok-last.last.now c.args.key ≡ true =
    sym (is_lt-key g.met.K.Ord.total g.met.K.Key.orders c.in_ok-last.last.now c.args.key) ∙ ap is_lt (sym c.cmp.ensures) ∙ sym c.is_lt.ensures ∙ c.if-is_lt.true in
    ap (option_map (λ e. e.0)) (sym (ap (λ es. next_from g.K.Key.order c.args.key es) (sym c.self.view_is) ∙ next_from-past g.met.K.Ord.total g.met.K.Key.orders c.in_ok-last.last.now c.args.key c.self.inside.entries.entries c.in_ok-last.ensures.all_up_to stands))
