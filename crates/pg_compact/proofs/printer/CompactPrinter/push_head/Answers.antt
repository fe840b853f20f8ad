use Rattle.std.proofs.Common.{[], ◌==◌, refl, ap, ◌∙◌}
use Rattle.pg_layout.specs.Borders.{has_top}
use Rattle.pg_config.specs.CompactConfig.{side_colors}
use Rattle.pg_picture.specs.CompactLines.{separator_row, line_if, top_line}
use Rattle.pg_picture.specs.Pieces.{continued}
use Rattle.pg_picture.specs.Inside.{lines_before}
use Rattle.pg_picture.proofs.Appending.{Appends-text, ◌then◌, stopped}
use Rattle.pg_compact.specs.Inside.{printed_table, line_colors}
use Rattle.pg_compact.proofs.CompactRows.{head-text}
use Rattle.pg_compact.proofs.printer.CompactPrinter.push_head.Goals as goal

pub returns-in_err-push_compact_margin : goal.returns-in_err-push_compact_margin
returns-in_err-push_compact_margin g c =
    let p = c.args.self.now in
    let t = printed_table g.D.Dimension.width g.C.Colors.color p [] in
    let m = c.get_margin.result in
    let mc = side_colors c.get_margin_color.result in
    Appends-text (head-text g.D.Dimension.width g.C.Colors.color p [] c.args.width m mc {first = m.top.size == 0} (top_line t.config.borders) (top_line t.config.borders_color) c.requires.width c.get_margin.ensures c.get_margin_color.ensures refl refl refl refl)
    (stopped (continued (lines_before (m.top.size == 0)) (line_if (has_top t.config.borders) (separator_row t (top_line t.config.borders) (top_line t.config.borders_color)))) c.from_residual.ensures.0 c.in_err-push_compact_margin.ensures)

pub returns : goal.returns
returns g c =
    let p = c.args.self.now in
    let m = c.get_margin.result in
    let mc = side_colors c.get_margin_color.result in
    let there = c.has_top.ensures ∙ ap (λ b. has_top b) c.get_borders-borders.ensures in
    let glyphs = c.top_line.ensures ∙ ap (λ b. top_line b) c.get_borders-borders.ensures in
    let colors = ap line_colors c.top_line-2.ensures ∙ ap (λ b. top_line b) c.get_borders_color-colors.ensures in
    Appends-text (head-text g.D.Dimension.width g.C.Colors.color p [] c.args.width m mc c.top_line.result (line_colors c.top_line-2.result) c.requires.width c.get_margin.ensures c.get_margin_color.ensures there glyphs colors refl)
    (c.in_ok-push_compact_margin.ensures then c.push_separator_if.ensures)
