use Rattle.std.proofs.Common.{◌≡◌, true, length, map, sym, ap, subst, ◌∙◌, arith}
use Rattle.std.proofs.lemmas.Str.{IsCharBoundary-start, IsCharBoundary-end}
use Rattle.unicode_segmentation.specs.Grapheme.{graphemes}
use Rattle.unicode_segmentation.specs.Iter.{graphemes_left}
use Rattle.pg_layout.specs.Text.{greatest, width_of}
use Rattle.std.specs.List.{list_all}
use Rattle.pg_fit.specs.Controls.{is_printable}
use Rattle.pg_fit.proofs.LawsOfControls.{widest-printable}
use Rattle.pg_fit.proofs.FilledLines.{StandFrom, characters-stand, slice_range-all}
use Rattle.pg_fit.proofs.least.widest_character.Goals as goal

pub returns-then-is_printable : goal.returns-then-is_printable
returns-then-is_printable c =
    let t = c.args.text.now in
    let printable = ap (list_all is_printable) (sym c.as_bytes.ensures.value) ∙ sym c.is_printable.ensures ∙ c.if-is_printable.true in
    omega (arith, c.min.ensures, widest-printable t printable)

pub loop-character-init : goal.loop-character-init
loop-character-init c =
    let t = c.args.text.now in
    let left : graphemes_left c.into_iter-character-iterator.result ≡ graphemes true t = ap graphemes_left c.into_iter-character-iterator.ensures.into_iter_gives ∙ c.graphemes-character-items.ensures.left in
    let stand = characters-stand t 0 (length t) c.utf8.text (omega arith) (IsCharBoundary-start t c.utf8.text) (IsCharBoundary-end t) in
    record {
      stand = subst (λ z. StandFrom t (length t) 0 z) (ap (graphemes true) (slice_range-all t) ∙ sym left) stand;
      at_end = IsCharBoundary-start t c.utf8.text;
      so_far = omega (arith, ap (λ z. greatest (map width_of z)) left);
    }

pub overflow_add-next : goal.overflow_add-next
overflow_add-next c = let stand = rw c.in-Some.ensures.steps at c.loop-character.invariant.stand in omega (arith, stand.0)

pub range-requires-clause-end_boundary : goal.range-requires-clause-end_boundary
range-requires-clause-end_boundary c = (rw c.in-Some.ensures.steps at c.loop-character.invariant.stand).2

pub loop-character-preserved : goal.loop-character-preserved
loop-character-preserved c =
    let h = c.loop-character.invariant in
    let ch = c.in-Some.character.now in
    let rest = graphemes_left c.next.new.self in
    let stand = rw c.in-Some.ensures.steps at h.stand in
    let wide : c.get_line_width.result ≡ width_of ch = c.get_line_width.ensures ∙ ap width_of (c.range.ensures.value ∙ stand.1) in
    record {
      stand = stand.3;
      at_end = stand.2;
      so_far = omega (arith, wide, h.so_far, ap (λ z. greatest (map width_of z)) c.in-Some.ensures.steps);
    }

pub returns : goal.returns
returns c = omega (arith, c.loop-character.invariant.so_far, ap (λ z. greatest (map width_of z)) c.in-None.ensures.steps.0)
