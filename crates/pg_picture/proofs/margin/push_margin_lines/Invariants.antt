use Rattle.std.proofs.Common.{replicate}
use Rattle.pg_layout.specs.Colors.{lent_color}
use Rattle.pg_picture.proofs.Appending.{Gained}
use Rattle.pg_picture.specs.Pieces.{continued, written}
use Rattle.pg_picture.specs.Inside.{lines_before}
use Rattle.pg_picture.specs.Table.{margin_line}
use Rattle.pg_picture.proofs.margin.push_margin_lines.Given as goal

abbrev pub invariant-loop-line : goal.invariant-loop-line
invariant-loop-line g l = Gained l.fn.buf l.buf (continued (lines_before l.is_first) (replicate l.line (written (margin_line l.indent l.offset (lent_color g.C.ANSIFmt.color_of l.color) l.width))))
