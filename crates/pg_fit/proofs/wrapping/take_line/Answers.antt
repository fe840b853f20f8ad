use Rattle.std.proofs.Common.{◌++◌, [], true, length, append-nil, sym, ap, ◌∙◌}
use Rattle.std.specs.List.{slice_range}
use Rattle.std.specs.String.{string_bytes}
use Rattle.std.proofs.lemmas.Str.{IsCharBoundary-start}
use Rattle.unicode_segmentation.specs.Grapheme.{graphemes}
use Rattle.std.specs.List.{join_with_byte}
use Rattle.pg_fit.specs.Wrapping.{filled, characters, pieces}
use Rattle.pg_layout.specs.Text.{width_of}
use Rattle.pg_fit.proofs.LawsOfControls.{nothing_wide}
use Rattle.pg_fit.proofs.FilledLines.{slice_range-none, slice_range-all}
use Rattle.pg_fit.proofs.wrapping.take_line.Goals as goal

pub take_characters-requires-clause-line_begin : goal.take_characters-requires-clause-line_begin
take_characters-requires-clause-line_begin g c = IsCharBoundary-start c.args.line.now c.utf8.line

pub take_characters-requires-clause-line_end : goal.take_characters-requires-clause-line_end
take_characters-requires-clause-line_end g c = IsCharBoundary-start c.args.line.now c.utf8.line

pub take_characters-requires-clause-columns : goal.take_characters-requires-clause-columns
take_characters-requires-clause-columns g c = sym (ap width_of (slice_range-none c.args.line.now 0) ∙ nothing_wide)

pub take_characters-requires-clause-piece_begin : goal.take_characters-requires-clause-piece_begin
take_characters-requires-clause-piece_begin g c = IsCharBoundary-start c.args.line.now c.utf8.line

pub returns-in_ok-last-in-Anywhere-clause-filled : goal.returns-in_ok-last-in-Anywhere-clause-filled
returns-in_ok-last-in-Anywhere-clause-filled g c =
    let t = c.args.line.now in
    let w = c.args.width in
    let old = string_bytes c.args.out.now in
    c.in_ok-last-in-Anywhere.ensures.filled []
    ∙ ap (λ z. old ++ join_with_byte 10 (filled w [] z)) (append-nil (characters [] (graphemes true (slice_range t 0 (length t)))) ∙ ap (λ s. characters [] (graphemes true s)) (slice_range-all t))
    ∙ ap (λ b. old ++ join_with_byte 10 (filled w [] (pieces b w t))) (sym c.in-Anywhere.is)
