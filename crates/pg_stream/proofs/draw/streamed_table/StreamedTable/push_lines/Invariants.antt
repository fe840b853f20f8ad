use Rattle.std.proofs.Common.{◌≡◌, map}
use Rattle.pg_picture.proofs.Appending.{Gained}
use Rattle.pg_stream.specs.Inside.{open_lines, draw_cell}
use Rattle.pg_stream.proofs.draw.streamed_table.StreamedTable.push_lines.Given as goal

abbrev pub invariant-loop-line : goal.invariant-loop-line
invariant-loop-line g l =
    let t = g.T.TableMarker.table in
    (l.opened ≡ map (draw_cell l.line) l.fn.opened) × Gained l.fn.buf l.buf (open_lines t l.self.pen.sheet.now.height l.fn.opened l.row l.index l.line)
