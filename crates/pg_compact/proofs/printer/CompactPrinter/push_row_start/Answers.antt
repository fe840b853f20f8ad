use Rattle.pg_config.specs.CompactConfig.{settings_of, side_colors}
use Rattle.pg_picture.specs.CompactLines.{colored_glyph}
use Rattle.pg_picture.proofs.Appending.{Appends-text, stopped}
use Rattle.pg_compact.proofs.CompactRows.{row_start-text}
use Rattle.pg_compact.proofs.printer.CompactPrinter.push_row_start.Goals as goal

pub returns-in_err-push_compact_indent : goal.returns-in_err-push_compact_indent
returns-in_err-push_compact_indent g c =
    let config = settings_of c.args.self.now.config.now in
    Appends-text (row_start-text config c.get_margin.result (side_colors c.get_margin_color.result) c.get_margin.ensures c.get_margin_color.ensures)
    (stopped (colored_glyph config.borders.left config.borders_color.left) c.from_residual.ensures.0 c.in_err-push_compact_indent.ensures)
