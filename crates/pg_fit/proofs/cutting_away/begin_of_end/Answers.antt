use Rattle.std.proofs.Common.{◌≡◌, ◌-◌, ◌<◌, ◌≤◌, ◌++◌, ◌∷◌, [], true, length, drop, reverse, chars, append-nil, refl, sym, ap, subst, ◌∙◌, arith}
use Rattle.std.proofs.lemmas.List.{reverse-append}
use Rattle.std.proofs.lemmas.List.Folds.{drop_split}
use Rattle.std.specs.List.{list_all}
use Rattle.std.specs.Str.{IsCharBoundary}
use Rattle.std.proofs.lemmas.Str.{chars-nil, IsCharBoundary-start, IsCharBoundary-end}
use Rattle.std.proofs.Math.Seq.{drop-length}
use Rattle.unicode_segmentation.specs.Grapheme.{graphemes}
use Rattle.unicode_segmentation.specs.Iter.{graphemes_left}
use Rattle.pg_layout.specs.Text.{width_of}
use Rattle.pg_fit.specs.Cutting.{held_before}
use Rattle.pg_fit.specs.Inside.{adds_up}
use Rattle.pg_fit.proofs.FilledLines.{StandFrom, characters-stand, slice_range-all}
use Rattle.pg_fit.proofs.LawsOfCuts.{stand-last, held_before-more, held_before-end}
use Rattle.pg_fit.proofs.cutting_away.begin_of_end.Goals as goal

pub loop-character-init : goal.loop-character-init
loop-character-init g c =
    let t = c.args.line.now in
    let left : graphemes_left c.into_iter-character-iterator.result.iter ≡ graphemes true t =
    ap (λ (r : _). graphemes_left r.iter) c.into_iter-character-iterator.ensures.into_iter_gives ∙ ap graphemes_left c.rev-character-items.ensures.source ∙ c.graphemes.ensures.left in
    let stand = characters-stand t 0 (length t) c.utf8.line (omega arith) (IsCharBoundary-start t c.utf8.line) (IsCharBoundary-end t) in
    record {
      width = refl;
      stand = subst (λ z. StandFrom t (length t) 0 z) (ap (graphemes true) (slice_range-all t) ∙ sym left) stand;
      at_end = IsCharBoundary-end t;
      columns = c.get_line_width.ensures ∙ ap width_of (sym (append-nil c.args.front.now) ∙ ap (λ z. c.args.front.now ++ z) (sym (drop-length t)));
      adds_up = λ _. ap (λ z. list_all adds_up (chars z)) (drop-length t) ∙ ap (list_all adds_up) chars-nil;
      so_far = ap (λ z. held_before c.args.width c.args.front.now z (reverse (graphemes_left c.into_iter-character-iterator.result.iter))) (drop-length t) ∙ ap (λ z. held_before c.args.width c.args.front.now [] (reverse z)) left;
    }

pub overflow_sub-begin : goal.overflow_sub-begin
overflow_sub-begin g c =
    let h = c.loop-character.invariant in
    let last = stand-last c.args.line.now c.loop-character.end.begin 0 (graphemes_left c.next.new.self.iter) c.in-Some.character.now (IsCharBoundary-start c.args.line.now c.utf8.line) (rw c.in-Some.ensures.steps at h.stand) in
    omega (arith, last.0)

pub longer_end-requires-clause-begin : goal.longer_end-requires-clause-begin
longer_end-requires-clause-begin g c =
    let h = c.loop-character.invariant in
    let last = stand-last c.args.line.now c.loop-character.end.begin 0 (graphemes_left c.next.new.self.iter) c.in-Some.character.now (IsCharBoundary-start c.args.line.now c.utf8.line) (rw c.in-Some.ensures.steps at h.stand) in
    last.2

pub returns-in_default-clause-end : goal.returns-in_default-clause-end
returns-in_default-clause-end g c =
    let t = c.args.line.now in
    let h = c.loop-character.invariant in
    let end = c.loop-character.end.begin in
    let ch = c.in-Some.character.now in
    let rest = graphemes_left c.next.new.self.iter in
    let last = stand-last t end 0 rest ch (IsCharBoundary-start t c.utf8.line) (rw c.in-Some.ensures.steps at h.stand) in
    let parts : drop (end - length ch) t ≡ ch ++ drop end t = drop_split t (end - length ch) end (omega arith) ∙ ap (λ z. z ++ drop end t) last.1 in
    let wide : c.args.width < width_of (c.args.front.now ++ (ch ++ drop end t)) = omega (arith, c.in_ok-longer.ensures.wide c.in_default.is, h.width, ap (λ z. width_of (c.args.front.now ++ z)) parts) in
    let order : reverse (rest ++ ch ∷ []) ≡ ch ∷ reverse rest = reverse-append rest (ch ∷ []) in
    sym (held_before-end c.args.width c.args.front.now (drop end t) ch (reverse rest) wide)
    ∙ ap (held_before c.args.width c.args.front.now (drop end t)) (sym order ∙ ap reverse (sym c.in-Some.ensures.steps))
    ∙ h.so_far

pub loop-character-preserved : goal.loop-character-preserved
loop-character-preserved g c =
    let t = c.args.line.now in
    let f = c.args.front.now in
    let h = c.loop-character.invariant in
    let end = c.loop-character.end.begin in
    let ch = c.in-Some.character.now in
    let rest = graphemes_left c.next.new.self.iter in
    let last = stand-last t end 0 rest ch (IsCharBoundary-start t c.utf8.line) (rw c.in-Some.ensures.steps at h.stand) in
    let parts : drop (end - length ch) t ≡ ch ++ drop end t = drop_split t (end - length ch) end (omega arith) ∙ ap (λ z. z ++ drop end t) last.1 in
    let e = c.in-Some-longer.longer in
    let made = c.in_ok-longer.ensures.fits e c.in-Some-longer.is in
    let columns = c.in_ok-longer.ensures.columns e c.in-Some-longer.is in
    let low : width_of (f ++ (ch ++ drop end t)) ≤ c.args.width = omega (arith, made.2, h.width, columns, ap (λ z. width_of (f ++ z)) parts) in
    let order : reverse (rest ++ ch ∷ []) ≡ ch ∷ reverse rest = reverse-append rest (ch ∷ []) in
    record {
      width = made.0 ∙ h.width;
      stand = subst (λ n. StandFrom t n 0 rest) (sym made.1) last.3;
      at_end = subst (λ n. IsCharBoundary t n) (sym made.1) last.2;
      columns = columns ∙ ap (λ n. width_of (f ++ drop n t)) (sym made.1);
      adds_up = λ yes. ap (λ n. list_all adds_up (chars (drop n t))) made.1 ∙ c.in_ok-longer.ensures.adds_up e c.in-Some-longer.is yes;
      so_far =
          ap (λ z. held_before c.args.width f z (reverse rest)) (ap (λ n. drop n t) made.1 ∙ parts)
          ∙ sym (held_before-more c.args.width f (drop end t) ch (reverse rest) low)
          ∙ ap (held_before c.args.width f (drop end t)) (sym order ∙ ap reverse (sym c.in-Some.ensures.steps))
          ∙ h.so_far;
    }
