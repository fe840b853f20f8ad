use Rattle.std.proofs.Common.{◌++◌, map, sym, ap, ◌∙◌, append-nil}
use Rattle.std.specs.String.{string_bytes}
use Rattle.std.specs.List.{join_with_byte}
use Rattle.pg_fit.proofs.FilledLines.{fed, join-fed}
use Rattle.pg_fit.specs.Cutting.{cut_away_line, cut_away_text}
use Rattle.pg_fit.proofs.cutting_away.cut_away.Goals as goal
use Rattle.pg_fit.proofs.cutting_away.cut_away.Goals.{in-Some+in_ok-line+in_ok-push_str, in_default}

pub loop-line-init : goal.loop-line-init
loop-line-init g c =
    let how = cut_away_line c.args.kept c.args.width c.args.tail.now in
    let left = c.into_iter-line-iterator.result in
    let rest = c.next.new.self in
    elim c.match-next.branch [
      | in-Some+in_ok-line+in_ok-push_str w ↦
          let line = w.in-Some.line.now in
          ap (λ o. string_bytes o ++ fed (map how left)) w.out-is
          ∙ ap (λ z. string_bytes w.push_str.new.self ++ fed (map how z)) c.into_iter-line-iterator.ensures.into_iter_gives
          ∙ ap (λ z. z ++ fed (map how rest)) (w.in_ok-push_str.ensures.bytes ∙ ap (λ z. z ++ w.as_str.result.now) c.new-out.ensures.bytes ∙ w.as_str.ensures.value ∙ w.in_ok-line.ensures)
          ∙ sym (join-fed (how line) (map how rest))
          ∙ ap (λ z. join_with_byte 10 (map how z)) (sym w.in-Some.ensures.steps ∙ c.get_lines-lines.ensures)
      | in_default w ↦
          ap (λ o. string_bytes o ++ fed (map how left)) w.out-is
          ∙ ap (λ z. z ++ fed (map how left)) c.new-out.ensures.bytes
          ∙ ap (λ z. fed (map how z)) (c.into_iter-line-iterator.ensures.into_iter_gives ∙ w.in_default.ensures.steps.1)
          ∙ ap (λ z. join_with_byte 10 (map how z)) (sym w.in_default.ensures.steps.0 ∙ c.get_lines-lines.ensures)
    ]

pub returns : goal.returns
unfolding cut_away_text
returns g c =
    let how = cut_away_line c.args.kept c.args.width c.args.tail.now in
    sym (append-nil (string_bytes c.loop-line.out)) ∙ ap (λ z. string_bytes c.loop-line.out ++ fed (map how z)) (sym c.in-None.ensures.steps.0) ∙ c.loop-line.invariant
