use Rattle.std.proofs.Common.{[], ◌++◌, None}
use Rattle.pg_config.specs.CompactConfig.{side_colors}
use Rattle.pg_picture.specs.CompactLines.{compact_indent, parts, parts_after}
use Rattle.pg_picture.proofs.Appending.{Appends-text, ◌then◌, stopped}
use Rattle.pg_compact.specs.Inside.{printed_table, line_colors}
use Rattle.pg_compact.proofs.CompactRows.{separator-line}
use Rattle.pg_compact.proofs.printer.CompactPrinter.push_separator.Goals as goal

pub returns-in_err-push_compact_indent : goal.returns-in_err-push_compact_indent
returns-in_err-push_compact_indent g c =
    let t = printed_table g.D.Dimension.width g.C.Colors.color c.args.self.now [] in
    let m = c.get_margin-margin.result in
    let mc = side_colors c.get_margin_color-color.result in
    Appends-text (separator-line t c.args.glyphs (line_colors c.args.colors) m mc c.get_margin-margin.ensures c.get_margin_color-color.ensures)
    (stopped (parts_after None (parts t c.args.glyphs (line_colors c.args.colors)) ++ compact_indent m.right.fill m.right.size mc.right) c.from_residual.ensures.0 c.in_err-push_compact_indent.ensures)

pub returns-in_err-push_parts : goal.returns-in_err-push_parts
returns-in_err-push_parts g c =
    let t = printed_table g.D.Dimension.width g.C.Colors.color c.args.self.now [] in
    let m = c.get_margin-margin.result in
    let mc = side_colors c.get_margin_color-color.result in
    Appends-text (separator-line t c.args.glyphs (line_colors c.args.colors) m mc c.get_margin-margin.ensures c.get_margin_color-color.ensures)
    (c.in_ok-push_compact_indent.ensures then stopped (compact_indent m.right.fill m.right.size mc.right) c.from_residual-in_err-push_parts.ensures.0 c.in_err-push_parts.ensures)

pub returns : goal.returns
returns g c =
    let t = printed_table g.D.Dimension.width g.C.Colors.color c.args.self.now [] in
    let m = c.get_margin-margin.result in
    let mc = side_colors c.get_margin_color-color.result in
    Appends-text (separator-line t c.args.glyphs (line_colors c.args.colors) m mc c.get_margin-margin.ensures c.get_margin_color-color.ensures)
    (c.in_ok-push_compact_indent.ensures then (c.in_ok-push_parts.ensures then c.push_compact_indent-2.ensures))
