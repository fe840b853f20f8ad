use Rattle.std.proofs.Common.{◌≡◌}
use Rattle.std.specs.Vec.{vec_len}
use Rattle.pg_config.specs.Inside.{taken_back, CanTakeBack}
use Rattle.pg_config.proofs.noted_places.NotedPlaces.take_back.Given as goal

abbrev pub invariant-loop-key : goal.invariant-loop-key
invariant-loop-key g l = record {
  back : taken_back g.K.Key.order l.self-inside.held.items l.self-inside.places ≡ l.fn.self.before;
  can : CanTakeBack g.K.Key.order l.self-inside.held.items l.self-inside.places;
}

abbrev pub decreases-loop-key : goal.decreases-loop-key
decreases-loop-key g l = vec_len l.self-inside.held
