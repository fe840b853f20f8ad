use Rattle.std.proofs.Common.{◌≡◌, ◌++◌, true, chars, drop, reverse, IsTrue}
use Rattle.std.specs.List.{list_all}
use Rattle.std.specs.Str.{IsCharBoundary}
use Rattle.unicode_segmentation.specs.Iter.{graphemes_left}
use Rattle.pg_layout.specs.Text.{width_of}
use Rattle.pg_fit.specs.Cutting.{ending, held_before}
use Rattle.pg_fit.specs.Inside.{adds_up}
use Rattle.pg_fit.proofs.FilledLines.{StandFrom}
use Rattle.pg_fit.proofs.cutting_away.begin_of_end.Given as goal

abbrev pub invariant-loop-character : goal.invariant-loop-character
invariant-loop-character g l = record {
  width : l.end.width ≡ l.width;
  stand : StandFrom l.line l.end.begin 0 (graphemes_left l.character-iterator.iter);
  at_end : IsCharBoundary l.line l.end.begin;
  columns : l.end.columns ≡ width_of (l.front ++ drop l.end.begin l.line);
  adds_up : IsTrue l.end.adds_up → list_all adds_up (chars (drop l.end.begin l.line)) ≡ true;
  so_far : held_before l.width l.front (drop l.end.begin l.line) (reverse (graphemes_left l.character-iterator.iter)) ≡ ending l.width l.front l.line;
}
