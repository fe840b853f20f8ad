use Rattle.std.proofs.Common.{◌≡◌, ◌-◌, ◌≤◌, ◌++◌, [], length}
use Rattle.std.specs.List.{slice_range, flat_map}
use Rattle.std.specs.String.{string_bytes}
use Rattle.std.specs.Str.{IsCharBoundary}
use Rattle.std.specs.List.{join_with_byte}
use Rattle.pg_layout.specs.Text.{width_of}
use Rattle.pg_fit.specs.Wrapping.{filled, words, indented, parted}
use Rattle.pg_fit.specs.Inside.{words_from}
use Rattle.pg_fit.proofs.filling.take_words.Given as goal

abbrev pub invariant-words : goal.invariant-words
invariant-words g l = record {
  order : l.line.begin ≤ l.line.end;
  columns : l.line.columns ≡ width_of (slice_range l.text l.line.begin l.line.end);
  begin_boundary : IsCharBoundary l.text l.line.begin;
  end_boundary : IsCharBoundary l.text l.line.end;
  so_far : string_bytes l.out ++ join_with_byte 10 (filled l.width (slice_range l.text l.line.begin l.line.end) (flat_map (parted l.width) (words_from l.text l.line.end)))
      ≡ string_bytes l.initial.out ++ join_with_byte 10 (filled l.width [] (flat_map (parted l.width) (indented (words l.text))));
}

abbrev pub decreases-words : goal.decreases-words
decreases-words g l = length l.text - l.line.end
