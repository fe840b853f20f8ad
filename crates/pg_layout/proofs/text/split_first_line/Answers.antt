use Rattle.std.proofs.Common.{◌≡◌, ◌∷◌, ◌<◌, [], ap, sym, ◌∙◌, length, arith}
use Rattle.std.specs.List.{before_first, after_first}
use Rattle.pg_layout.proofs.TextLines.{is_feed, feed_place, feed_place-le-length, take-length, slice_range-front, IsCharBoundary-feed_place, IsCharBoundary-past_feed, lines_of-one, lines_of-first}
use Rattle.pg_layout.proofs.text.split_first_line.Goals as goal

pub range-line-requires-clause-end_boundary : goal.range-line-requires-clause-end_boundary
range-line-requires-clause-end_boundary c = IsCharBoundary-feed_place c.args.text.now c.first_line_end-end.result c.first_line_end-end.ensures

pub range_from-requires : goal.range_from-requires
range_from-requires c =
    let text = c.args.text.now in
    let within : c.first_line_end-end.result < length text = omega (arith, feed_place-le-length text) in
    λ some. IsCharBoundary-past_feed text c.first_line_end-end.result c.utf8.text c.first_line_end-end.ensures within

pub returns-then-end-text : goal.returns-then-end-text
returns-then-end-text c =
    let text = c.args.text.now in
    let line = c.range-line.ensures.value ∙ slice_range-front text c.first_line_end-end.result ∙ take-length text c.first_line_end-end.result c.if-end-text.true in
    lines_of-one text (sym c.first_line_end-end.ensures ∙ c.if-end-text.true) ∙ ap (λ z. z ∷ []) (sym line)

pub returns : goal.returns
returns c =
    let text = c.args.text.now in
    let within : feed_place text < length text = omega (arith, feed_place-le-length text) in
    let line : c.range-line.result.now ≡ before_first is_feed text = c.range-line.ensures.value ∙ slice_range-front text c.first_line_end-end.result ∙ cc in
    let rest : c.range_from.result.now ≡ after_first is_feed text = c.range_from.ensures.value ∙ cc in
    lines_of-first text within ∙ cc
