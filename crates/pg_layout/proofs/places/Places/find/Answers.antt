use Rattle.std.proofs.Common.{ap, ◌∙◌}
use Rattle.pg_layout.specs.Places.{value_at}
use Rattle.pg_layout.proofs.PlacesInTrees.{lookup-key}
use Rattle.pg_layout.proofs.places.Places.find.Goals as goal

pub returns : goal.returns
returns g c = c.get.ensures.value ∙ lookup-key g.met.K.Ord.total g.met.K.Key.orders c.args.key c.self.inside.entries.entries ∙ ap (λ es. value_at g.K.Key.order c.args.key es) c.self.view_is
