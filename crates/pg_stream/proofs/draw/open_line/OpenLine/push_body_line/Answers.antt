use Rattle.pg_picture.specs.Pieces.{written}
use Rattle.pg_picture.proofs.Appending.{◌then◌, stopped, Appends-text}
use Rattle.pg_stream.specs.Inside.{open_line}
use Rattle.pg_stream.proofs.draw.PartsOfLines.{line_at-parts}
use Rattle.pg_stream.proofs.draw.open_line.OpenLine.push_body_line.Goals as goal

pub returns-in_err-push_line_start : goal.returns-in_err-push_line_start
returns-in_err-push_line_start g c =
    Appends-text (line_at-parts g.T.TableMarker.table.config c.args.self.now.table.pen.sheet.now.height c.args.index (written (open_line g.T.TableMarker.table c.args.self.now.opened.now c.args.row c.args.line)))
    (stopped _ c.from_residual.ensures.0 c.in_err-push_line_start.ensures)

pub returns-in_err-push_line_of_row : goal.returns-in_err-push_line_of_row
returns-in_err-push_line_of_row g c =
    Appends-text (line_at-parts g.T.TableMarker.table.config c.args.self.now.table.pen.sheet.now.height c.args.index (written (open_line g.T.TableMarker.table c.args.self.now.opened.now c.args.row c.args.line)))
    (c.in_ok-push_line_start.ensures then (stopped _ c.from_residual-in_err-push_line_of_row.ensures.0 c.in_err-push_line_of_row.ensures))

pub returns : goal.returns
returns g c =
    Appends-text (line_at-parts g.T.TableMarker.table.config c.args.self.now.table.pen.sheet.now.height c.args.index (written (open_line g.T.TableMarker.table c.args.self.now.opened.now c.args.row c.args.line)))
    (c.in_ok-push_line_start.ensures then (c.in_ok-push_line_of_row.ensures then c.push_line_end.ensures))
