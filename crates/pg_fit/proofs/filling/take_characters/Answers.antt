use Rattle.std.proofs.Common.{◌≡◌, ◌+◌, ◌++◌, ◌∷◌, [], true, length, sym, ap, ◌∙◌, inl, inr, refl, ⊎_elim, arith}
use Rattle.std.specs.List.{slice_range}
use Rattle.std.specs.String.{string_bytes}
use Rattle.unicode_segmentation.specs.Grapheme.{graphemes}
use Rattle.unicode_segmentation.specs.Iter.{graphemes_left}
use Rattle.std.specs.List.{join_with_byte}
use Rattle.pg_fit.specs.Wrapping.{filled, characters}
use Rattle.pg_fit.proofs.FilledLines.{characters-stand, slice_range-none}
use Rattle.pg_fit.proofs.filling.take_characters.Goals as goal

pub loop-character-init : goal.loop-character-init
loop-character-init g c =
    let a = c.args in
    let left : graphemes_left c.into_iter-character-iterator.result ≡ graphemes true (slice_range a.text.now a.piece.begin a.piece.end) =
    ap graphemes_left c.into_iter-character-iterator.ensures.into_iter_gives ∙ c.graphemes-character-items.ensures.left ∙ ap (graphemes true) c.range.ensures.value in
    record {
      stand = rw left (characters-stand a.text.now a.piece.begin a.piece.end c.utf8.text c.requires.piece c.requires.piece_begin c.requires.piece_end);
      line = c.requires.line;
      columns = c.requires.columns;
      gap = c.requires.gap;
      caught = inl refl;
      within = c.requires.piece;
      line_begin = c.requires.line_begin;
      line_end = c.requires.line_end;
      at_end = c.requires.piece_begin;
      so_far = λ ps. ap (λ z. string_bytes a.out.now ++ join_with_byte 10 (filled a.width (slice_range a.text.now a.line.begin a.line.end) (characters (slice_range a.text.now a.line.end a.piece.begin) z ++ ps))) left;
    }

pub overflow_add-next : goal.overflow_add-next
overflow_add-next g c = let stand = rw c.in-Some.ensures.steps at c.loop-character.invariant.stand in omega (arith, stand.0, c.requires.piece_end.0)

pub take-requires-clause-piece_end : goal.take-requires-clause-piece_end
take-requires-clause-piece_end g c = (rw c.in-Some.ensures.steps at c.loop-character.invariant.stand).2

pub loop-character-preserved : goal.loop-character-preserved
loop-character-preserved g c =
    let a = c.args in
    let h = c.loop-character.invariant in
    let steps = c.in-Some.ensures.steps in
    let stand = rw steps at h.stand in
    let made = c.in_ok-line.ensures in
    let line = c.in_ok-line.line in
    let ch = c.in-Some.character.now in
    let end = c.loop-character.end in
    record {
      stand = stand.3;
      line = omega (arith, made.order, made.at_end);
      columns = made.columns;
      gap = omega (arith, made.at_end);
      caught = inr made.at_end;
      within = stand.0;
      line_begin = made.line_begin;
      line_end = made.line_end;
      at_end = stand.2;
      so_far = λ ps.
          ap (λ z. string_bytes c.take.new.out ++ join_with_byte 10 (filled a.width (slice_range a.text.now line.begin line.end) (characters z (graphemes_left c.next.new.self) ++ ps))) (ap (λ n. slice_range a.text.now n (end + length ch)) made.at_end ∙ slice_range-none a.text.now (end + length ch))
          ∙ made.filled (characters [] (graphemes_left c.next.new.self) ++ ps)
          ∙ ap (λ z. string_bytes c.loop-character.out ++ join_with_byte 10 (filled a.width (slice_range a.text.now c.loop-character.line.begin c.loop-character.line.end) (record { gap = slice_range a.text.now c.loop-character.line.end end; text = z } ∷ (characters [] (graphemes_left c.next.new.self) ++ ps)))) stand.1
          ∙ ap (λ z. string_bytes c.loop-character.out ++ join_with_byte 10 (filled a.width (slice_range a.text.now c.loop-character.line.begin c.loop-character.line.end) (characters (slice_range a.text.now c.loop-character.line.end end) z ++ ps))) (sym steps)
          ∙ h.so_far ps;
    }

pub returns-clause-filled : goal.returns-clause-filled
returns-clause-filled g c =
    let a = c.args in
    let line = c.loop-character.line in
    λ ps. ap (λ z. string_bytes c.loop-character.out ++ join_with_byte 10 (filled a.width (slice_range a.text.now line.begin line.end) (characters (slice_range a.text.now line.end c.loop-character.end) z ++ ps))) (sym c.in-None.ensures.steps.0) ∙ c.loop-character.invariant.so_far ps

pub returns-clause-at_end : goal.returns-clause-at_end
returns-clause-at_end g c =
    let h = c.loop-character.invariant in
    let last : c.loop-character.end ≡ c.args.piece.end = rw c.in-None.ensures.steps.0 at h.stand in
    λ some. ⊎_elim (λ (none : c.loop-character.end ≡ c.args.piece.begin). absurd (omega arith)) (λ (all : c.loop-character.line.end ≡ c.loop-character.end). all ∙ last) h.caught
