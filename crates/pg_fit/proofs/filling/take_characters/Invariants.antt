use Rattle.std.proofs.Common.{◌≡◌, ◌⊎◌, ◌≤◌, ◌++◌, true, List}
use Rattle.std.specs.List.{slice_range}
use Rattle.std.specs.String.{string_bytes}
use Rattle.std.specs.Str.{IsCharBoundary}
use Rattle.unicode_segmentation.specs.Grapheme.{graphemes}
use Rattle.unicode_segmentation.specs.Iter.{graphemes_left}
use Rattle.std.specs.List.{join_with_byte}
use Rattle.pg_layout.specs.Text.{width_of}
use Rattle.pg_fit.specs.Wrapping.{Piece, filled, characters}
use Rattle.pg_fit.proofs.FilledLines.{StandFrom}
use Rattle.pg_fit.proofs.filling.take_characters.Given as goal

abbrev pub invariant-loop-character : goal.invariant-loop-character
invariant-loop-character g l = record {
  stand : StandFrom l.text l.fn.piece.end l.end (graphemes_left l.character-iterator);
  line : l.line.begin ≤ l.line.end;
  columns : l.line.columns ≡ width_of (slice_range l.text l.line.begin l.line.end);
  gap : l.line.end ≤ l.end;
  caught : (l.end ≡ l.fn.piece.begin) ⊎ (l.line.end ≡ l.end);
  within : l.end ≤ l.fn.piece.end;
  line_begin : IsCharBoundary l.text l.line.begin;
  line_end : IsCharBoundary l.text l.line.end;
  at_end : IsCharBoundary l.text l.end;
  so_far : (ps : List Piece) →
      string_bytes l.out ++ join_with_byte 10 (filled l.width (slice_range l.text l.line.begin l.line.end) (characters (slice_range l.text l.line.end l.end) (graphemes_left l.character-iterator) ++ ps))
      ≡ string_bytes l.initial.out ++ join_with_byte 10 (filled l.width (slice_range l.text l.initial.line.begin l.initial.line.end) (characters (slice_range l.text l.initial.line.end l.fn.piece.begin) (graphemes true (slice_range l.text l.fn.piece.begin l.fn.piece.end)) ++ ps));
}
