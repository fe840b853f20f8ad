use Rattle.std.proofs.Common.{◌≡◌, ◌<◌, ◌≤◌, ◌++◌, length, drop, sym, ap, ◌∙◌, arith}
use Rattle.std.specs.String.{string_bytes}
use Rattle.pg_layout.specs.Text.{width_of}
use Rattle.pg_fit.specs.Cutting.{ending, cut_behind}
use Rattle.pg_fit.proofs.LawsOfCuts.{away-fits, away-tailed, away-tail}
use Rattle.pg_fit.proofs.cutting_away.cut_line.Goals as goal

pub returns-then-get_line_width-width : goal.returns-then-get_line_width-width
returns-then-get_line_width-width g c =
    let low : width_of c.args.line.now ≤ c.args.width = omega (arith, c.get_line_width.ensures) in
    c.in_ok-same.ensures.ok ∙ sym (away-fits c.args.kept c.args.width c.args.tail.now c.args.line.now low)

pub returns-then-tail_width-width : goal.returns-then-tail_width-width
returns-then-tail_width-width g c =
    let wide : c.args.width < width_of c.args.line.now = omega (arith, c.get_line_width.ensures) in
    let long : c.args.width < width_of c.args.tail.now = omega (arith, c.get_line_width-tail_width.ensures) in
    c.in_ok-tail.ensures.ok ∙ c.begin_of.ensures ∙ sym (away-tail c.args.kept c.args.width c.args.tail.now c.args.line.now wide long)

pub returns : goal.returns
returns g c =
    let wide : c.args.width < width_of c.args.line.now = omega (arith, c.get_line_width.ensures) in
    let low : width_of c.args.tail.now ≤ c.args.width = omega (arith, c.get_line_width-tail_width.ensures) in
    let tail = c.args.tail.now in
    let line = c.args.line.now in
    let front = c.front_of-front.result.now in
    let behind : string_bytes c.push_str.new.self ≡ front ++ tail = c.in_ok-push_str.ensures.bytes ∙ ap (λ z. z ++ tail) c.in_ok-out.ensures.ok in
    let is : c.as_str.result.now ≡ front ++ tail = c.as_str.ensures.value ∙ behind in
    let end : c.range_from.result.now ≡ ending c.args.width (front ++ tail) (drop (length front) line) =
    c.range_from.ensures.value ∙ c.in_ok-begin.ensures.end ∙ ap (λ z. ending c.args.width z c.range_from-rest.result.now) is ∙ ap (ending c.args.width (front ++ tail)) c.range_from-rest.ensures.value in
    c.in_ok-push_str-2.ensures.bytes
    ∙ ap (λ z. z ++ c.range_from.result.now) behind
    ∙ ap (λ z. (front ++ tail) ++ z) end
    ∙ ap (λ z. cut_behind c.args.width tail z line) c.front_of-front.ensures.front
    ∙ sym (away-tailed c.args.kept c.args.width tail line wide low)
