use Rattle.std.proofs.Common.{◌≡◌, ◌+◌, ◌-◌, ◌<◌, ⊎_elim, eq-zero-or-pos, drop, length, length-drop, subst, sym, ap, ◌∙◌, arith}
use Rattle.std.specs.Str.{IsCharBoundary}
use Rattle.pg_fit.proofs.FilledLines.{spaces, word, spaces-short, word-short, behind_spaces, later_word-is, first_word-is, no_word}
use Rattle.pg_fit.proofs.filling.next_word.Goals as goal

pub returns-then-gap-rest : goal.returns-then-gap-rest
returns-then-gap-rest c =
    let t = c.args.text.now in
    no_word t c.args.at (sym (c.count_spaces-gap.ensures ∙ ap spaces c.range_from-rest.ensures.value) ∙ c.if-gap-rest.true ∙ ap length c.range_from-rest.ensures.value)

pub overflow_add-begin : goal.overflow_add-begin
overflow_add-begin c =
    let t = c.args.text.now in
    omega (arith, c.requires.0, length-drop c.args.at t, spaces-short (drop c.args.at t), c.count_spaces-gap.ensures ∙ ap spaces c.range_from-rest.ensures.value)

pub range_from-requires : goal.range_from-requires
range_from-requires c =
    let t = c.args.text.now in
    let gap : spaces (drop c.args.at t) ≡ c.count_spaces-gap.result = sym (c.count_spaces-gap.ensures ∙ ap spaces c.range_from-rest.ensures.value) in
    let some : spaces (drop c.args.at t) < length (drop c.args.at t) = ⊎_elim (λ e. absurd (c.if-gap-rest.false (omega (arith, ap length c.range_from-rest.ensures.value, spaces-short (drop c.args.at t), gap, e)))) (λ l. omega (arith, l)) (eq-zero-or-pos (length (drop c.args.at t) - spaces (drop c.args.at t))) in
    λ _. subst (λ n. IsCharBoundary t (c.args.at + n)) gap (behind_spaces t c.args.at c.utf8.text c.requires some)

pub overflow_add-end : goal.overflow_add-end
overflow_add-end c =
    let t = c.args.text.now in
    omega (arith, c.requires.0, length-drop c.args.at t, length-drop (c.args.at + c.count_spaces-gap.result) t, spaces-short (drop c.args.at t), word-short (drop (c.args.at + c.count_spaces-gap.result) t), c.count_spaces-gap.ensures ∙ ap spaces c.range_from-rest.ensures.value, c.count_word.ensures ∙ ap word c.range_from.ensures.value)

pub returns-then-at-eq0 : goal.returns-then-at-eq0
returns-then-at-eq0 c =
    let t = c.args.text.now in
    let rest = c.range_from-rest.ensures.value in
    let gap : c.count_spaces-gap.result ≡ spaces (drop c.args.at t) = c.count_spaces-gap.ensures ∙ ap spaces rest in
    let some : c.count_spaces-gap.result < length (drop c.args.at t) = ⊎_elim (λ e. absurd (c.if-gap-rest.false (omega (arith, ap length rest, spaces-short (drop c.args.at t), e)))) (λ l. omega (arith, l)) (eq-zero-or-pos (length (drop c.args.at t) - c.count_spaces-gap.result)) in
    first_word-is t c.args.at c.count_spaces-gap.result c.count_word.result c.utf8.text c.if-at-eq0.true gap (c.count_word.ensures ∙ ap word c.range_from.ensures.value) some

pub returns : goal.returns
returns c =
    let t = c.args.text.now in
    let rest = c.range_from-rest.ensures.value in
    let gap : c.count_spaces-gap.result ≡ spaces (drop c.args.at t) = c.count_spaces-gap.ensures ∙ ap spaces rest in
    let some : c.count_spaces-gap.result < length (drop c.args.at t) = ⊎_elim (λ e. absurd (c.if-gap-rest.false (omega (arith, ap length rest, spaces-short (drop c.args.at t), e)))) (λ l. omega (arith, l)) (eq-zero-or-pos (length (drop c.args.at t) - c.count_spaces-gap.result)) in
    later_word-is t c.args.at c.count_spaces-gap.result c.count_word.result c.utf8.text (omega (arith, c.if-at-eq0.false)) c.requires gap (c.count_word.ensures ∙ ap word c.range_from.ensures.value) some
