use Rattle.pg_picture.specs.Pieces.{written}
use Rattle.pg_picture.proofs.Appending.{◌then◌, stopped, Appends-text}
use Rattle.pg_stream.specs.Inside.{single_line}
use Rattle.pg_stream.proofs.draw.PartsOfLines.{line_at-parts}
use Rattle.pg_stream.proofs.draw.streamed_table.StreamedTable.push_single_row.Goals as goal

pub returns-in_err-push_line_start : goal.returns-in_err-push_line_start
returns-in_err-push_line_start g c = λ texts gives.
    let line = written (single_line g.T.TableMarker.table c.args.row texts) in
    Appends-text (line_at-parts g.T.TableMarker.table.config c.args.self.pen.sheet.now.height c.args.index line) (stopped _ c.from_residual.ensures.0 c.in_err-push_line_start.ensures)

pub returns-in_err-push_single_cells : goal.returns-in_err-push_single_cells
returns-in_err-push_single_cells g c = λ texts gives.
    let line = written (single_line g.T.TableMarker.table c.args.row texts) in
    Appends-text (line_at-parts g.T.TableMarker.table.config c.args.self.pen.sheet.now.height c.args.index line)
    (c.in_ok-push_line_start.ensures then (stopped _ c.from_residual-in_err-push_single_cells.ensures.0 (c.in_err-push_single_cells.ensures texts gives)))

pub returns : goal.returns
returns g c = λ texts gives.
    let line = written (single_line g.T.TableMarker.table c.args.row texts) in
    Appends-text (line_at-parts g.T.TableMarker.table.config c.args.self.pen.sheet.now.height c.args.index line)
    (c.in_ok-push_line_start.ensures then (c.in_ok-push_single_cells.ensures texts gives then c.push_line_end.ensures))
