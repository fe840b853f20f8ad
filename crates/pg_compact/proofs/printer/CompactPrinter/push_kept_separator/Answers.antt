use Rattle.std.proofs.Common.{[], drop, string_bytes, ap, ap₂, ◌∙◌, arith}
use Rattle.pg_picture.specs.CompactLines.{separator_row, inner_line}
use Rattle.pg_picture.proofs.Appending.{Appends-text, text-from, lent-text, kept-text}
use Rattle.pg_compact.specs.Inside.{printed_table, IsInnerSeparator, line_colors}
use Rattle.pg_compact.proofs.printer.CompactPrinter.push_kept_separator.Goals as goal

pub returns-in-Some-clause-appends : goal.returns-in-Some-clause-appends
returns-in-Some-clause-appends g c =
    let t = printed_table g.D.Dimension.width g.C.Colors.color c.args.self.now [] in
    Appends-text (lent-text (IsInnerSeparator t) c.text.result c.args.kept.now.text c.in-Some.text c.text.ensures c.in-Some.is c.requires.kept 1 (omega arith)) c.push_text.ensures

pub returns-clause-kept : goal.returns-clause-kept
returns-clause-kept g c =
    let t = printed_table g.D.Dimension.width g.C.Colors.color c.args.self.now [] in
    let here = text-from c.len-from.result (c.len-from.ensures ∙ c.args.buf.now.bytes.ok.0) c.in_ok-push_separator.ensures in
    let glyphs = c.inner_line.ensures ∙ ap (λ b. inner_line b) c.get_borders-borders.ensures in
    let colors = ap line_colors c.inner_line-2.ensures ∙ ap (λ b. inner_line b) c.get_borders_color-colors.ensures in
    kept-text (IsInnerSeparator t) c.keep.new.self.text (drop c.len-from.result (string_bytes c.push_separator.new.buf)) c.keep.ensures.is (λ r later. here ∙ ap₂ (separator_row t) glyphs colors)
