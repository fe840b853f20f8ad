use Rattle.std.proofs.Common.{◌++◌, ◌∷◌, [], lit<, append_assoc, append-nil, sym, ap, ◌∙◌}
use Rattle.std.specs.List.{flat_map, list_all}
use Rattle.std.specs.String.{string_bytes}
use Rattle.std.proofs.lemmas.Str.{encode_ascii}
use Rattle.std.specs.List.{join_with_byte}
use Rattle.pg_layout.specs.Text.{is_plain_byte}
use Rattle.pg_layout.proofs.TextLines.{feed_place-plain, lines_of-one}
use Rattle.pg_fit.proofs.FilledLines.{fed, joined-first, fed-next}
use Rattle.pg_fit.specs.Wrapping.{wrapped_line, wrapped}
use Rattle.pg_fit.proofs.wrapping.wrap.Goals as goal
use Rattle.pg_fit.proofs.wrapping.wrap.Goals.{in-Some+in_ok-push_line-2, in_default}

-- a plain text is one line
pub returns-then-is_plain : goal.returns-then-is_plain
unfolding wrapped
returns-then-is_plain g c =
    let t = c.args.text.now in
    let how = wrapped_line c.args.breaking c.args.width in
    let plain = ap (list_all is_plain_byte) (sym c.as_bytes.ensures.value) ∙ sym c.is_plain.ensures ∙ c.if-is_plain.true in
    c.in_ok-push_line.ensures
    ∙ ap (λ z. z ++ join_with_byte 10 (how t)) c.in_ok-out.ensures.bytes
    ∙ ap (join_with_byte 10) (sym (append-nil (how t)))
    ∙ ap (λ ls. join_with_byte 10 (flat_map how ls)) (sym (lines_of-one t (feed_place-plain t plain)))

pub loop-line-init : goal.loop-line-init
loop-line-init g c =
    let how = wrapped_line c.args.breaking c.args.width in
    let left = c.into_iter-line-iterator.result in
    let rest = c.next.new.self in
    elim c.match-next.branch [
      | in-Some+in_ok-push_line-2 w ↦
          let line = w.in-Some.line.now in
          ap (λ o. string_bytes o ++ fed (flat_map how left)) w.out-is
          ∙ ap (λ z. string_bytes w.push_line-in-Some.new.out ++ fed (flat_map how z)) c.into_iter-line-iterator.ensures.into_iter_gives
          ∙ ap (λ z. z ++ fed (flat_map how rest)) (w.in_ok-push_line-2.ensures ∙ ap (λ z. z ++ join_with_byte 10 (how line)) c.in_ok-out.ensures.bytes)
          ∙ sym (joined-first c.args.breaking c.args.width line rest)
          ∙ ap (λ z. join_with_byte 10 (flat_map how z)) (sym w.in-Some.ensures.steps ∙ c.get_lines-lines.ensures)
      | in_default w ↦
          ap (λ o. string_bytes o ++ fed (flat_map how left)) w.out-is
          ∙ ap (λ z. z ++ fed (flat_map how left)) c.in_ok-out.ensures.bytes
          ∙ ap (λ z. fed (flat_map how z)) (c.into_iter-line-iterator.ensures.into_iter_gives ∙ w.in_default.ensures.steps.1)
          ∙ ap (λ z. join_with_byte 10 (flat_map how z)) (sym w.in_default.ensures.steps.0 ∙ c.get_lines-lines.ensures)
    ]

pub loop-line-preserved : goal.loop-line-preserved
loop-line-preserved g c =
    let how = wrapped_line c.args.breaking c.args.width in
    let line = c.in-Some-line.line.now in
    let after = c.next-in-loop-line.new.self in
    let so_far = string_bytes c.loop-line.out in
    ap (λ z. z ++ fed (flat_map how after)) (c.in_ok-push_line-3.ensures ∙ ap (λ z. z ++ join_with_byte 10 (how line)) (c.in_ok-push.ensures.bytes ∙ ap (λ z. so_far ++ z) (encode_ascii 10 (lit< tt))))
    ∙ append_assoc (so_far ++ 10 ∷ []) (join_with_byte 10 (how line)) (fed (flat_map how after))
    ∙ append_assoc so_far (10 ∷ []) (join_with_byte 10 (how line) ++ fed (flat_map how after))
    ∙ ap (λ z. so_far ++ z) (sym (fed-next c.args.breaking c.args.width line after))
    ∙ ap (λ z. so_far ++ fed (flat_map how z)) (sym c.in-Some-line.ensures.steps)
    ∙ c.loop-line.invariant

pub returns : goal.returns
unfolding wrapped
returns g c =
    let how = wrapped_line c.args.breaking c.args.width in
    sym (append-nil (string_bytes c.loop-line.out)) ∙ ap (λ z. string_bytes c.loop-line.out ++ fed (flat_map how z)) (sym c.in-None.ensures.steps.0) ∙ c.loop-line.invariant
