use Rattle.std.proofs.Common.{replicate}
use Rattle.pg_layout.specs.Colors.{str_color}
use Rattle.pg_picture.proofs.Appending.{Gained}
use Rattle.pg_picture.specs.CompactLines.{compact_indent}
use Rattle.pg_picture.specs.Pieces.{continued}
use Rattle.pg_picture.specs.Inside.{lines_before}
use Rattle.pg_picture.proofs.compact_margin.push_compact_margin.Given as goal

-- the lines so far
abbrev pub invariant-loop-number : goal.invariant-loop-number
invariant-loop-number g l = Gained l.fn.buf l.buf (continued (lines_before l.is_first) (replicate l.number (compact_indent l.margin.fill l.width (str_color l.color))))
