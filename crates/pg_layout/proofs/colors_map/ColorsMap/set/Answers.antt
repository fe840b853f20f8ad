use Rattle.std.proofs.Common.{◌≡◌}
use Rattle.std.proofs.lemmas.Result.{on_ok_weaker}
use Rattle.pg_layout.specs.Keys.{by_place}
use Rattle.pg_layout.specs.Places.{with_place}
use Rattle.pg_layout.specs.ColorsMap.{IsColored}
use Rattle.pg_layout.proofs.KeyedPlaces.{IsColored-with_place}
use Rattle.pg_layout.proofs.colors_map.ColorsMap.set.Goals as goal

pub returns-clause-latest : goal.returns-clause-latest
returns-clause-latest g c =
    on_ok_weaker {P = c.set.new.self ≡ with_place by_place c.args.pos c.args.color c.self.inside.colors} {Q = IsColored c.args.pos c.args.color c.args.self.now c.set.new.self} c.set.result (IsColored-with_place c.args.pos c.args.color c.args.self.now c.self.inside.colors c.set.new.self c.self.view_is) c.set.ensures.ok
