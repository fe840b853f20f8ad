use Rattle.std.proofs.Common.{◌≡◌, ◌∙◌, ◌||◌, true, false, sym, ap}
use Rattle.pg_config.specs.Inside.{is_covered_from}
use Rattle.pg_config.proofs.CoveredPlaces.{is_covered_left_of, next-left, next-is_left, none-left}
use Rattle.pg_config.proofs.spans.Spans.is_covered_from_left.Goals as goal

pub loop-span-smaller : goal.loop-span-smaller
loop-span-smaller g c = next-is_left c.args.self.now c.loop-span.column c.in-Some.span c.iter-rectangles.ensures.ascending (sym c.last_before.ensures ∙ c.in-Some.is)

pub loop-span-preserved : goal.loop-span-preserved
loop-span-preserved g c =
    let rest = is_covered_left_of c.args.self.now c.args.pos c.in-Some.span.0.col c.args.first c.args.last in
    let here : is_covered_from c.args.self.now c.args.pos c.in-Some.span.0.col c.args.first c.args.last ≡ false = sym c.is_covered_from.ensures ∙ c.if-is_covered_from.false in
    c.loop-span.invariant ∙ next-left c.args.self.now c.args.pos c.loop-span.column c.args.first c.args.last c.in-Some.span c.iter-rectangles.ensures.ascending (sym c.last_before.ensures ∙ c.in-Some.is) ∙ ap (λ b. b || rest) here

pub returns-then-is_covered_from : goal.returns-then-is_covered_from
returns-then-is_covered_from g c =
    let rest = is_covered_left_of c.args.self.now c.args.pos c.in-Some.span.0.col c.args.first c.args.last in
    let here : is_covered_from c.args.self.now c.args.pos c.in-Some.span.0.col c.args.first c.args.last ≡ true = sym c.is_covered_from.ensures ∙ c.if-is_covered_from.true in
    sym (c.loop-span.invariant ∙ next-left c.args.self.now c.args.pos c.loop-span.column c.args.first c.args.last c.in-Some.span c.iter-rectangles.ensures.ascending (sym c.last_before.ensures ∙ c.in-Some.is) ∙ ap (λ b. b || rest) here)

pub returns : goal.returns
returns g c = sym (c.loop-span.invariant ∙ none-left c.args.self.now c.args.pos c.loop-span.column c.args.first c.args.last c.iter-rectangles.ensures.ascending (sym c.last_before.ensures ∙ c.in_default.is))
