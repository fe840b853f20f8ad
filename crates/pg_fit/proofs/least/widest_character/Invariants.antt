use Rattle.std.proofs.Common.{◌≡◌, max, length, map}
use Rattle.std.specs.Str.{IsCharBoundary}
use Rattle.unicode_segmentation.specs.Iter.{graphemes_left}
use Rattle.pg_layout.specs.Text.{greatest, width_of}
use Rattle.pg_fit.specs.Wrapping.{widest_character}
use Rattle.pg_fit.proofs.FilledLines.{StandFrom}
use Rattle.pg_fit.proofs.least.widest_character.Given as goal

abbrev pub invariant-loop-character : goal.invariant-loop-character
invariant-loop-character l = record {
  stand : StandFrom l.text (length l.text) l.end (graphemes_left l.character-iterator);
  at_end : IsCharBoundary l.text l.end;
  so_far : max l.width (greatest (map width_of (graphemes_left l.character-iterator))) ≡ widest_character l.text;
}
