use Rattle.std.proofs.Common.{flat_map, []}
use Rattle.std.specs.List.{range_with_len}
use Rattle.pg_layout.specs.Colors.{str_color}
use Rattle.pg_picture.proofs.Appending.{Gained}
use Rattle.pg_compact.specs.Inside.{printed_table, padding_column}
use Rattle.pg_compact.proofs.printer.CompactPrinter.push_blanks.Given as goal

-- the columns so far
abbrev pub invariant-loop-column : goal.invariant-loop-column
invariant-loop-column g l = Gained l.fn.buf l.buf (flat_map (padding_column (printed_table g.D.Dimension.width g.C.Colors.color l.self []) (str_color l.color)) (range_with_len 0 l.column))
