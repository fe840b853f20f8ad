use Rattle.std.proofs.Common.{◌≡◌, ◌+◌, length}
use Rattle.pg_layout.specs.Text.{lines_of, is_blank}
use Rattle.pg_picture.proofs.PlacesOfTexts.{ends_after, total}
use Rattle.pg_picture.proofs.facts.count_empty_lines.Given as goal

abbrev pub invariant-loop-line : goal.invariant-loop-line
invariant-loop-line l = record {
  counted : ends_after is_blank l.ends l.line-iterator ≡ ends_after is_blank (record { shown = 0; top = 0; bottom = 0 }) (lines_of l.text);
  room : total l.ends + length l.line-iterator ≡ length (lines_of l.text);
}
