use Rattle.std.proofs.Common.{◌≡◌, ◌+◌, length, fold}
use Rattle.pg_layout.specs.Text.{lines_of}
use Rattle.pg_picture.proofs.PlacesOfTexts.{ends_after, total, is_left_out, wider}
use Rattle.pg_picture.proofs.facts.TextFacts.of_lines.Given as goal

abbrev pub invariant-loop-line : goal.invariant-loop-line
invariant-loop-line l = record {
  counted : ends_after (is_left_out l.formatting) l.ends l.line-iterator ≡ ends_after (is_left_out l.formatting) (record { shown = 0; top = 0; bottom = 0 }) (lines_of l.text);
  room : total l.ends + length l.line-iterator ≡ length (lines_of l.text);
  widened : fold (wider l.formatting.horizontal_trim) l.widest l.line-iterator ≡ fold (wider l.formatting.horizontal_trim) 0 (lines_of l.text);
}
