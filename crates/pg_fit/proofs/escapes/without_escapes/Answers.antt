use Rattle.std.proofs.Common.{◌++◌, ◌∷◌, [], true, false, string_bytes, append-nil, map-id, sym, ap, ◌∙◌}
use Rattle.std.specs.Str.{encode_utf8_all}
use Rattle.std.proofs.lemmas.Iterator.{YieldsList-from_chars}
use Rattle.std.proofs.lemmas.Iterator.Consumers.{YieldsList-end}
use Rattle.pg_fit.specs.Escapes.{shown_behind, without_escapes}
use Rattle.pg_fit.proofs.LawsOfEscapes.{goes-on}
use Rattle.pg_fit.proofs.escapes.without_escapes.Goals as goal
use Rattle.pg_fit.proofs.escapes.without_escapes.Goals.{then-is_shown+in_ok-push, else-is_shown}

pub loop-c-init : goal.loop-c-init
loop-c-init g c = λ rest. ap (λ z. z ++ encode_utf8_all (shown_behind 0 rest)) c.new-out.ensures.bytes

pub loop-c-preserved : goal.loop-c-preserved
loop-c-preserved g c = λ rest.
    let before = c.loop-c.invariant (c.in-Some.c ∷ rest) in
    elim c.if-is_shown.branch [
      | then-is_shown+in_ok-push w ↦
          goes-on c.loop-c.yielded _ _ c.loop-c.reading c.after-reading.result c.in-Some.c rest c.is_shown.result true (c.after-reading.ensures rest)
          (c.is_shown.ensures rest) w.if-is_shown.true (ap string_bytes w.out-is ∙ w.in_ok-push.ensures.bytes) before
      | else-is_shown w ↦
          goes-on c.loop-c.yielded _ _ c.loop-c.reading c.after-reading.result c.in-Some.c rest c.is_shown.result false (c.after-reading.ensures rest)
          (c.is_shown.ensures rest) w.if-is_shown.false (ap string_bytes w.out-is) before
    ]

pub returns : goal.returns
unfolding without_escapes
returns g c =
    let end = YieldsList-end (YieldsList-from_chars c.args.text.now c.utf8.text cc) c.loop-c.yielded _ c.loop-c.yielded_by _ _ c.in-None.is c.next.ensures.steps in
    sym (append-nil (string_bytes c.loop-c.out))
    ∙ c.loop-c.invariant []
    ∙ ap (λ z. encode_utf8_all (shown_behind 0 z)) (append-nil c.loop-c.yielded ∙ sym (map-id c.loop-c.yielded) ∙ end.0)
