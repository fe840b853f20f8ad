use Rattle.std.proofs.Common.{[], ◌++◌, None, flat_map, refl}
use Rattle.std.specs.List.{range_with_len}
use Rattle.pg_picture.specs.Pieces.{cut}
use Rattle.pg_picture.specs.CompactLines.{part_if}
use Rattle.pg_picture.specs.Inside.{open_parts, open_color}
use Rattle.pg_picture.proofs.Appending.{Appends-text, ◌then◌, stopped}
use Rattle.pg_compact.specs.Inside.{printed_table, line_colors, column_parts}
use Rattle.pg_compact.proofs.CompactRows.{parts-text}
use Rattle.pg_compact.proofs.printer.CompactPrinter.push_parts.Goals as goal

pub returns-in_err-run : goal.returns-in_err-run
returns-in_err-run g c =
    let t = printed_table g.D.Dimension.width g.C.Colors.color c.args.self.now [] in
    let colors = line_colors c.args.colors in
    let columns = flat_map (column_parts t c.args.glyphs colors) (range_with_len 0 t.columns) in
    let right = part_if c.args.glyphs.right colors.right in
    let left = open_color c.new.result (part_if c.args.glyphs.left colors.left) in
    Appends-text (parts-text t c.args.glyphs colors c.new.ensures refl refl refl)
    (stopped (open_parts left columns ++ (open_parts (open_color left columns) right ++ cut (open_color (open_color left columns) right) None)) c.from_residual.ensures.0 c.in_err-run.ensures.appends)

pub returns-in_err-run-2 : goal.returns-in_err-run-2
returns-in_err-run-2 g c =
    let t = printed_table g.D.Dimension.width g.C.Colors.color c.args.self.now [] in
    let colors = line_colors c.args.colors in
    let columns = flat_map (column_parts t c.args.glyphs colors) (range_with_len 0 t.columns) in
    let right = part_if c.args.glyphs.right colors.right in
    let done = open_color c.in_ok-run.run' columns in
    Appends-text (parts-text t c.args.glyphs colors c.new.ensures c.in_ok-run.ensures.color refl refl)
    (c.in_ok-run.ensures.appends then stopped (open_parts done right ++ cut (open_color done right) None) c.from_residual-in_err-run-2.ensures.0 c.in_err-run-2.ensures.appends)

pub returns-in_err-run-3 : goal.returns-in_err-run-3
returns-in_err-run-3 g c =
    let t = printed_table g.D.Dimension.width g.C.Colors.color c.args.self.now [] in
    let colors = line_colors c.args.colors in
    let right = part_if c.args.glyphs.right colors.right in
    Appends-text (parts-text t c.args.glyphs colors c.new.ensures c.in_ok-run.ensures.color c.in_ok-run-2.ensures.color refl)
    (c.in_ok-run.ensures.appends then (c.in_ok-run-2.ensures.appends then stopped (cut (open_color c.in_ok-run-2.run' right) None) c.from_residual-in_err-run-3.ensures.0 c.in_err-run-3.ensures.appends))

pub returns : goal.returns
returns g c =
    let t = printed_table g.D.Dimension.width g.C.Colors.color c.args.self.now [] in
    let colors = line_colors c.args.colors in
    Appends-text (parts-text t c.args.glyphs colors c.new.ensures c.in_ok-run.ensures.color c.in_ok-run-2.ensures.color c.in_ok-run-3.ensures.color)
    (c.in_ok-run.ensures.appends then (c.in_ok-run-2.ensures.appends then (c.in_ok-run-3.ensures.appends then c.close.ensures)))
