use Rattle.std.proofs.Common.{[], false, replicate, ap, ◌∙◌}
use Rattle.pg_layout.specs.Borders.{has_bottom}
use Rattle.pg_config.specs.CompactConfig.{side_colors}
use Rattle.pg_picture.specs.CompactLines.{compact_indent, bottom_line}
use Rattle.pg_picture.specs.Pieces.{continued}
use Rattle.pg_picture.specs.Inside.{lines_before}
use Rattle.pg_picture.proofs.Appending.{Appends-text, ◌then◌, stopped}
use Rattle.pg_compact.specs.Inside.{line_colors}
use Rattle.pg_compact.proofs.CompactRows.{foot-text}
use Rattle.pg_compact.proofs.printer.CompactPrinter.push_foot.Goals as goal

pub returns-in_err-push_separator_if : goal.returns-in_err-push_separator_if
returns-in_err-push_separator_if g c =
    let p = c.args.self.now in
    let m = c.get_margin-margin.result in
    let mc = side_colors c.get_margin_color-color.result in
    let there = c.has_bottom.ensures ∙ ap (λ b. has_bottom b) c.get_borders-borders.ensures in
    let glyphs = c.bottom_line.ensures ∙ ap (λ b. bottom_line b) c.get_borders-borders.ensures in
    let colors = ap line_colors c.bottom_line-2.ensures ∙ ap (λ b. bottom_line b) c.get_borders_color-colors.ensures in
    Appends-text (foot-text g.D.Dimension.width g.C.Colors.color p [] c.args.width m mc c.bottom_line.result (line_colors c.bottom_line-2.result) c.requires.width c.get_margin-margin.ensures c.get_margin_color-color.ensures there glyphs colors)
    (stopped (continued (lines_before false) (replicate m.bottom.size (compact_indent m.bottom.fill c.args.width mc.bottom))) c.from_residual.ensures.0 c.in_err-push_separator_if.ensures)

pub returns : goal.returns
returns g c =
    let p = c.args.self.now in
    let m = c.get_margin-margin.result in
    let mc = side_colors c.get_margin_color-color.result in
    let there = c.has_bottom.ensures ∙ ap (λ b. has_bottom b) c.get_borders-borders.ensures in
    let glyphs = c.bottom_line.ensures ∙ ap (λ b. bottom_line b) c.get_borders-borders.ensures in
    let colors = ap line_colors c.bottom_line-2.ensures ∙ ap (λ b. bottom_line b) c.get_borders_color-colors.ensures in
    Appends-text (foot-text g.D.Dimension.width g.C.Colors.color p [] c.args.width m mc c.bottom_line.result (line_colors c.bottom_line-2.result) c.requires.width c.get_margin-margin.ensures c.get_margin_color-color.ensures there glyphs colors)
    (c.in_ok-push_separator_if.ensures then c.push_compact_margin.ensures)
