use Rattle.std.proofs.Common.{◌≡◌, ◌+◌, ℕ, take, drop, arith, sym, ap, ◌∙◌, subst, Some}
use Rattle.pg_layout.specs.LineCursor.{StandsIn, line_number}
use Rattle.pg_layout.proofs.TextLines.{feed_place, feed_place-le-length, slice_range-front, IsCharBoundary-feed_place, IsCharBoundary-place, slice_get-line_number, StandsIn-next, line_number-next, line_number-end, slice_get-end}
use Rattle.pg_layout.proofs.line_cursor.LineCursor.next_line.Goals as goal

pub returns-then-self-text-clause-line : goal.returns-then-self-text-clause-line
returns-then-self-text-clause-line c = sym (slice_get-end c.args.self.now c.args.text.now (omega arith))

pub returns-then-self-text-clause-number : goal.returns-then-self-text-clause-number
returns-then-self-text-clause-number c = omega (arith, line_number-end c.args.self.now c.args.text.now (omega arith))

pub range_from-rest-requires : goal.range_from-rest-requires
range_from-rest-requires c =
    let P : ℕ → Type 0 = λ place. StandsIn place c.args.text.now in
    IsCharBoundary-place c.self.inside.place c.args.text.now c.utf8.text (subst P (sym c.self.view_is) c.requires) c.if-self-text.false

pub overflow_add-self : goal.overflow_add-self
overflow_add-self c = omega (arith, feed_place-le-length c.range_from-rest.result.now)

pub overflow_add-self-2 : goal.overflow_add-self-2
overflow_add-self-2 c = omega (arith, feed_place-le-length c.range_from-rest.result.now)

pub range-requires-clause-end_boundary : goal.range-requires-clause-end_boundary
range-requires-clause-end_boundary c = IsCharBoundary-feed_place c.range_from-rest.result.now c.first_line_end-end.result c.first_line_end-end.ensures

pub returns-clause-line : goal.returns-clause-line
returns-clause-line c =
    let text = c.args.text.now in
    let place = c.args.self.now in
    let rest : c.range_from-rest.result.now ≡ drop place text = c.range_from-rest.ensures.value ∙ ap (λ n. drop n text) c.self.view_is in
    let end : c.first_line_end-end.result ≡ feed_place (drop place text) = c.first_line_end-end.ensures ∙ ap feed_place rest in
    let line : c.range.result.now ≡ take (feed_place (drop place text)) (drop place text) = c.range.ensures.value ∙ slice_range-front c.range_from-rest.result.now c.first_line_end-end.result ∙ cc in
    ap Some line ∙ sym (slice_get-line_number place text c.requires (omega arith))

pub returns-clause-stands : goal.returns-clause-stands
returns-clause-stands c =
    let text = c.args.text.now in
    let place = c.self.inside.place in
    let end : feed_place (drop place text) ≡ c.first_line_end-end.result = sym (c.first_line_end-end.ensures ∙ ap feed_place c.range_from-rest.ensures.value) in
    let P : ℕ → Type 0 = λ n. StandsIn (place + (n + 1)) text in
    subst P end (StandsIn-next place text c.if-self-text.false)

pub returns-clause-number : goal.returns-clause-number
returns-clause-number c =
    let text = c.args.text.now in
    let place = c.args.self.now in
    let rest : c.range_from-rest.result.now ≡ drop place text = c.range_from-rest.ensures.value ∙ ap (λ n. drop n text) c.self.view_is in
    let end : c.first_line_end-end.result ≡ feed_place (drop place text) = c.first_line_end-end.ensures ∙ ap feed_place rest in
    let next : c.self.inside.place + (c.first_line_end-end.result + 1) ≡ place + (feed_place (drop place text) + 1) = omega (arith, end, c.self.view_is) in
    ap (λ n. line_number n text) next ∙ line_number-next place text c.requires (omega arith)
