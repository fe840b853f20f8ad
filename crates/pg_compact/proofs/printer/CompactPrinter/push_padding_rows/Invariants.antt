use Rattle.std.proofs.Common.{[], replicate}
use Rattle.pg_layout.specs.Colors.{str_color}
use Rattle.pg_picture.proofs.Appending.{Gained}
use Rattle.pg_picture.specs.CompactLines.{padding_row}
use Rattle.pg_picture.specs.Pieces.{continued}
use Rattle.pg_picture.specs.Inside.{lines_before}
use Rattle.pg_compact.specs.Inside.{printed_table}
use Rattle.pg_compact.proofs.printer.CompactPrinter.push_padding_rows.Given as goal

-- the lines so far
abbrev pub invariant-loop-number : goal.invariant-loop-number
invariant-loop-number g l = Gained l.fn.buf l.buf (continued (lines_before l.is_first) (replicate l.number (padding_row (printed_table g.D.Dimension.width g.C.Colors.color l.self []) (str_color l.color))))
