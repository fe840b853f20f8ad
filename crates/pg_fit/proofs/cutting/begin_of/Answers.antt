use Rattle.std.proofs.Common.{◌≡◌, ◌+◌, ◌<◌, ◌≤◌, ◌++◌, [], true, length, refl, sym, ap, subst, ◌∙◌, arith}
use Rattle.std.specs.List.{slice_range}
use Rattle.std.proofs.lemmas.Str.{IsCharBoundary-start, IsCharBoundary-end}
use Rattle.unicode_segmentation.specs.Grapheme.{graphemes}
use Rattle.unicode_segmentation.specs.Iter.{graphemes_left}
use Rattle.unicode_segmentation.proofs.TextLemmas.{slice_range_split}
use Rattle.pg_layout.specs.Text.{width_of}
use Rattle.pg_fit.specs.Cutting.{held}
use Rattle.pg_fit.proofs.LawsOfControls.{nothing_wide}
use Rattle.pg_fit.proofs.FilledLines.{StandFrom, characters-stand, slice_range-none, slice_range-all}
use Rattle.pg_fit.proofs.LawsOfCuts.{held-more, held-end}
use Rattle.pg_fit.proofs.cutting.begin_of.Goals as goal

pub loop-character-init : goal.loop-character-init
loop-character-init c =
    let t = c.args.line.now in
    let left : graphemes_left c.into_iter-character-iterator.result ≡ graphemes true t = ap graphemes_left c.into_iter-character-iterator.ensures.into_iter_gives ∙ c.graphemes-character-items.ensures.left in
    let stand = characters-stand t 0 (length t) c.utf8.line (omega arith) (IsCharBoundary-start t c.utf8.line) (IsCharBoundary-end t) in
    record {
      begin = refl;
      stand = subst (λ z. StandFrom t (length t) 0 z) (ap (graphemes true) (slice_range-all t) ∙ sym left) stand;
      at_end = IsCharBoundary-start t c.utf8.line;
      columns = sym (ap width_of (slice_range-none t 0) ∙ nothing_wide);
      so_far = ap (held c.args.width []) left;
    }

pub overflow_add-end : goal.overflow_add-end
overflow_add-end c = let stand = rw c.in-Some.ensures.steps at c.loop-character.invariant.stand in omega (arith, stand.0)

pub columns_within-requires-clause-line_begin : goal.columns_within-requires-clause-line_begin
columns_within-requires-clause-line_begin c = rw c.loop-character.invariant.begin (IsCharBoundary-start c.args.line.now c.utf8.line)

pub columns_within-requires-clause-end : goal.columns_within-requires-clause-end
columns_within-requires-clause-end c = (rw c.in-Some.ensures.steps at c.loop-character.invariant.stand).2

pub columns_within-requires-clause-columns : goal.columns_within-requires-clause-columns
columns_within-requires-clause-columns c = c.loop-character.invariant.columns ∙ ap (λ n. width_of (slice_range c.args.line.now n c.loop-character.front.end)) (sym c.loop-character.invariant.begin)

pub loop-character-preserved : goal.loop-character-preserved
loop-character-preserved c =
    let t = c.args.line.now in
    let w = c.args.width in
    let h = c.loop-character.invariant in
    let end = c.loop-character.front.end in
    let ch = c.in-Some.character.now in
    let rest = graphemes_left c.next.new.self in
    let stand = rw c.in-Some.ensures.steps at h.stand in
    let parts : slice_range t 0 (end + length ch) ≡ slice_range t 0 end ++ ch = slice_range_split t 0 end (end + length ch) (omega arith) (omega arith) ∙ ap (λ z. slice_range t 0 end ++ z) stand.1 in
    let made = c.in-Some-columns_within.ensures {u = tt} in
    let columns = made.0 ∙ ap (λ n. width_of (slice_range t n (end + length ch))) h.begin in
    let low : width_of (slice_range t 0 end ++ ch) ≤ w = omega (arith, made.1, columns, ap width_of parts) in
    record {
      begin = refl;
      stand = stand.3;
      at_end = stand.2;
      columns = columns;
      so_far = ap (λ z. held w z rest) parts ∙ sym (held-more w (slice_range t 0 end) ch rest low) ∙ ap (held w (slice_range t 0 end)) (sym c.in-Some.ensures.steps) ∙ h.so_far;
    }

pub returns-in_default : goal.returns-in_default
returns-in_default c =
    let t = c.args.line.now in
    let w = c.args.width in
    let h = c.loop-character.invariant in
    let end = c.loop-character.front.end in
    let ch = c.in-Some.character.now in
    let rest = graphemes_left c.next.new.self in
    let stand = rw c.in-Some.ensures.steps at h.stand in
    let parts : slice_range t 0 (end + length ch) ≡ slice_range t 0 end ++ ch = slice_range_split t 0 end (end + length ch) (omega arith) (omega arith) ∙ ap (λ z. slice_range t 0 end ++ z) stand.1 in
    let wide : w < width_of (slice_range t 0 end ++ ch) = omega (arith, c.in_default.ensures {u = tt}, ap (λ n. width_of (slice_range t n (end + length ch))) h.begin, ap width_of parts) in
    c.range.ensures.value ∙ sym (held-end w (slice_range t 0 end) ch rest wide) ∙ ap (held w (slice_range t 0 end)) (sym c.in-Some.ensures.steps) ∙ h.so_far
