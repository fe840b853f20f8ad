use Rattle.std.proofs.Common.{ap, ap₂, ◌∙◌, is_gt}
use Rattle.std.specs.BTreeMap.Range.{entries_between}
use Rattle.std.specs.declared.ops.Bound.TheVariants.{Included}
use Rattle.pg_layout.specs.Places.{between}
use Rattle.pg_layout.proofs.PlacesInTrees.{between-key, forward-key}
use Rattle.pg_layout.proofs.places.Places.between.Goals as goal

pub range-requires : goal.range-requires
range-requires g c = ap₂ (λ start end. is_gt (g.K.Ord.cmp start end)) c.new.ensures.start c.new.ensures.end ∙ forward-key g.met.K.Ord.total g.met.K.Key.orders c.args.from c.args.to c.requires

pub returns-clause-all : goal.returns-clause-all
returns-clause-all g c =
    c.range.ensures.between c.new.ensures.exhausted
    ∙ ap₂ (λ start end. entries_between g.K.Ord.cmp (Included start) (Included end) c.self.inside.entries.entries) c.new.ensures.start c.new.ensures.end
    ∙ between-key g.met.K.Ord.total g.met.K.Key.orders c.args.from c.args.to c.self.inside.entries.entries
    ∙ ap (λ es. between g.K.Key.order c.args.from c.args.to es) c.self.view_is
