use Rattle.std.proofs.Common.{◌≡◌, refl, sym, ap, subst, ◌∙◌, Option, Some, None}
use Rattle.std.specs.Prelude.{IsOk, IsSome, OnOk}
use Rattle.std.specs.declared.result.Result.{Result}
use Rattle.std.specs.declared.result.Result.TheVariants.{Ok, Err}
use Rattle.std.proofs.lemmas.Bool.{false≢true}
use Rattle.pg_config.specs.Inside.{taken_back, CanTakeBack}
use Rattle.pg_config.proofs.Lookups.{taken_back-rest, CanTakeBack-rest}
use Rattle.pg_config.proofs.noted_places.NotedPlaces.take_back.Goals as goal

-- what succeeds with and without a value succeeds
succeeds : {V P : Type 0} (v : Option V) → (v ≡ None → P) → (IsSome v → P) → P
succeeds None without with = without refl
succeeds (Some x) without with = with refl

at_ok : {T E P : Type 0} (r : Result T E) → IsOk r → OnOk r P → P
at_ok (Ok x) is p = p
at_ok (Err e) is p = absurd (false≢true is)

pub loop-key-preserved : goal.loop-key-preserved
loop-key-preserved g c =
    let order = g.K.Key.order in
    let es = c.loop-key.self-inside.places in
    let rest = c.pop.new.self.items in
    let can = CanTakeBack-rest order _ es c.loop-key.self-inside.held.items rest c.in-Some.ensures.items c.loop-key.invariant.can in
    let done : IsOk c.exchange-done.result = succeeds _ c.exchange-done.ensures.taken (λ is. c.exchange-done.ensures.old_key (can.0 is)) in
    let moved = at_ok c.exchange-done.result done c.exchange-done.ensures.ok in
    record {
      back = ap (λ x. taken_back order rest x) moved ∙ taken_back-rest order _ es c.loop-key.self-inside.held.items rest c.in-Some.ensures.items ∙ c.loop-key.invariant.back;
      can = subst (λ x. CanTakeBack order rest x) (sym moved) can.1;
    }
