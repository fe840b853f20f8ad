use Rattle.std.proofs.Common.{flat_map}
use Rattle.std.specs.List.{range_with_len}
use Rattle.pg_picture.proofs.Appending.{Gained}
use Rattle.pg_picture.specs.Pieces.{written}
use Rattle.pg_picture.specs.Table.{row_part}
use Rattle.pg_peekable.proofs.looked_up_table.LookedUpTable.push_parts.Given as goal

abbrev pub invariant-loop-column : goal.invariant-loop-column
invariant-loop-column g l = Gained l.fn.buf l.buf (written (flat_map (row_part g.T.TableMarker.table l.line.row l.line.number) (range_with_len 0 l.column)))
