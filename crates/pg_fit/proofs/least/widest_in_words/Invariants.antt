use Rattle.std.proofs.Common.{◌≡◌, ◌-◌, max, length}
use Rattle.std.specs.Str.{IsCharBoundary}
use Rattle.pg_fit.specs.Inside.{words_from}
use Rattle.pg_fit.specs.Wrapping.{words, indented}
use Rattle.pg_fit.proofs.NarrowedWidths.{widest_in}
use Rattle.pg_fit.proofs.least.widest_in_words.Given as goal

abbrev pub invariant-words : goal.invariant-words
invariant-words l = record {
  boundary : IsCharBoundary l.line l.end;
  so_far : max l.width (widest_in (words_from l.line l.end)) ≡ widest_in (indented (words l.line));
}

abbrev pub decreases-words : goal.decreases-words
decreases-words l = length l.line - l.end
