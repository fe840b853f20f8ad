use Rattle.std.proofs.Common.{flat_map}
use Rattle.std.specs.List.{range_with_len}
use Rattle.pg_picture.specs.Pieces.{written}
use Rattle.pg_picture.proofs.Appending.{Gained}
use Rattle.pg_stream.specs.Inside.{open_part}
use Rattle.pg_stream.proofs.draw.open_line.OpenLine.push_line_of_row.Given as goal

abbrev pub invariant-loop-column : goal.invariant-loop-column
invariant-loop-column g l =
    Gained l.fn.buf l.buf (written (flat_map (open_part g.T.TableMarker.table l.self.opened.now l.row l.line) (range_with_len 0 l.column)))
