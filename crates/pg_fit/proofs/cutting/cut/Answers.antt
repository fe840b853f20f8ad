use Rattle.std.proofs.Common.{◌++◌, ◌∷◌, [], lit<, map, append_assoc, append-nil, sym, ap, ◌∙◌}
use Rattle.std.specs.String.{string_bytes}
use Rattle.std.proofs.lemmas.Str.{encode_ascii}
use Rattle.std.specs.List.{join_with_byte}
use Rattle.pg_fit.proofs.FilledLines.{fed, join-fed}
use Rattle.pg_fit.specs.Cutting.{cut_line, cut_text}
use Rattle.pg_fit.proofs.cutting.cut.Goals as goal
use Rattle.pg_fit.proofs.cutting.cut.Goals.{in-Some+in_ok-push_cut, in_default}

pub loop-line-init : goal.loop-line-init
loop-line-init g c =
    let how = cut_line c.args.width c.args.tail.now in
    let left = c.into_iter-line-iterator.result in
    let rest = c.next.new.self in
    elim c.match-next.branch [
      | in-Some+in_ok-push_cut w ↦
          let line = w.in-Some.line.now in
          ap (λ o. string_bytes o ++ fed (map how left)) w.out-is
          ∙ ap (λ z. string_bytes w.push_cut.new.out ++ fed (map how z)) c.into_iter-line-iterator.ensures.into_iter_gives
          ∙ ap (λ z. z ++ fed (map how rest)) (w.in_ok-push_cut.ensures ∙ ap (λ z. z ++ how line) c.new-out.ensures.bytes)
          ∙ sym (join-fed (how line) (map how rest))
          ∙ ap (λ z. join_with_byte 10 (map how z)) (sym w.in-Some.ensures.steps ∙ c.get_lines-lines.ensures)
      | in_default w ↦
          ap (λ o. string_bytes o ++ fed (map how left)) w.out-is
          ∙ ap (λ z. z ++ fed (map how left)) c.new-out.ensures.bytes
          ∙ ap (λ z. fed (map how z)) (c.into_iter-line-iterator.ensures.into_iter_gives ∙ w.in_default.ensures.steps.1)
          ∙ ap (λ z. join_with_byte 10 (map how z)) (sym w.in_default.ensures.steps.0 ∙ c.get_lines-lines.ensures)
    ]

pub loop-line-preserved : goal.loop-line-preserved
loop-line-preserved g c =
    let how = cut_line c.args.width c.args.tail.now in
    let line = c.in-Some-line.line.now in
    let after = c.next-in-loop-line.new.self in
    let so_far = string_bytes c.loop-line.out in
    ap (λ z. z ++ fed (map how after)) (c.in_ok-push_cut-2.ensures ∙ ap (λ z. z ++ how line) (c.in_ok-push.ensures.bytes ∙ ap (λ z. so_far ++ z) (encode_ascii 10 (lit< tt))))
    ∙ append_assoc (so_far ++ 10 ∷ []) (how line) (fed (map how after))
    ∙ append_assoc so_far (10 ∷ []) (how line ++ fed (map how after))
    ∙ ap (λ z. so_far ++ fed (map how z)) (sym c.in-Some-line.ensures.steps)
    ∙ c.loop-line.invariant

pub returns : goal.returns
unfolding cut_text
returns g c =
    let how = cut_line c.args.width c.args.tail.now in
    sym (append-nil (string_bytes c.loop-line.out)) ∙ ap (λ z. string_bytes c.loop-line.out ++ fed (map how z)) (sym c.in-None.ensures.steps.0) ∙ c.loop-line.invariant
