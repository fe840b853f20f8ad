use Rattle.std.proofs.Common.{◌≡◌, [], flat_map}
use Rattle.std.specs.List.{range_with_len}
use Rattle.pg_picture.proofs.Appending.{Gained}
use Rattle.pg_picture.specs.Inside.{open_parts, open_color}
use Rattle.pg_compact.specs.Inside.{printed_table, line_colors, column_parts}
use Rattle.pg_compact.proofs.printer.CompactPrinter.push_columns.Given as goal

-- the columns so far, and the colour that they leave open
abbrev pub invariant-loop-column : goal.invariant-loop-column
invariant-loop-column g l =
    let so_far = flat_map (column_parts (printed_table g.D.Dimension.width g.C.Colors.color l.self []) l.glyphs (line_colors l.colors)) (range_with_len 0 l.column) in
    record { gained : Gained l.fn.buf l.buf (open_parts l.fn.run so_far); color : l.run ≡ open_color l.fn.run so_far }
