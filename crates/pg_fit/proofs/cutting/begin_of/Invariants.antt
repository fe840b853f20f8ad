use Rattle.std.proofs.Common.{◌≡◌, [], true, length}
use Rattle.std.specs.List.{slice_range}
use Rattle.std.specs.Str.{IsCharBoundary}
use Rattle.unicode_segmentation.specs.Grapheme.{graphemes}
use Rattle.unicode_segmentation.specs.Iter.{graphemes_left}
use Rattle.pg_layout.specs.Text.{width_of}
use Rattle.pg_fit.specs.Cutting.{held}
use Rattle.pg_fit.proofs.FilledLines.{StandFrom}
use Rattle.pg_fit.proofs.cutting.begin_of.Given as goal

abbrev pub invariant-loop-character : goal.invariant-loop-character
invariant-loop-character l = record {
  begin : l.front.begin ≡ 0;
  stand : StandFrom l.line (length l.line) l.front.end (graphemes_left l.character-iterator);
  at_end : IsCharBoundary l.line l.front.end;
  columns : l.front.columns ≡ width_of (slice_range l.line 0 l.front.end);
  so_far : held l.width (slice_range l.line 0 l.front.end) (graphemes_left l.character-iterator) ≡ held l.width [] (graphemes true l.line);
}
