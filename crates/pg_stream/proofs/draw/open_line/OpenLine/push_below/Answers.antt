use Rattle.pg_picture.proofs.Appending.{Gained-none, Gained-all, ◌then◌, stopped, Appends-text}
use Rattle.pg_stream.proofs.draw.PartsOfLines.{below-absent, below-parts}
use Rattle.pg_stream.proofs.draw.open_line.OpenLine.push_below.Goals as goal

pub returns-then-not-has_horizontal : goal.returns-then-not-has_horizontal
returns-then-not-has_horizontal g c = Appends-text (below-absent g.T.TableMarker.table c.args.self.now.table.pen.sheet.now.height c.args.self.now.opened.now c.args.rows c.args.index c.has_horizontal.ensures c.if-not-has_horizontal.true) (Gained-all (Gained-none c.args.buf.now))

pub returns-in_err-push_line_start : goal.returns-in_err-push_line_start
returns-in_err-push_line_start g c =
    Appends-text (below-parts g.T.TableMarker.table c.args.self.now.table.pen.sheet.now.height c.args.self.now.opened.now c.args.rows c.args.index c.has_horizontal.ensures c.if-not-has_horizontal.false)
    (stopped _ c.from_residual.ensures.0 c.in_err-push_line_start.ensures)

pub returns-in_err-push_separator : goal.returns-in_err-push_separator
returns-in_err-push_separator g c =
    Appends-text (below-parts g.T.TableMarker.table c.args.self.now.table.pen.sheet.now.height c.args.self.now.opened.now c.args.rows c.args.index c.has_horizontal.ensures c.if-not-has_horizontal.false)
    (c.in_ok-push_line_start.ensures then stopped _ c.from_residual-in_err-push_separator.ensures.0 c.in_err-push_separator.ensures)

pub returns : goal.returns
returns g c =
    Appends-text (below-parts g.T.TableMarker.table c.args.self.now.table.pen.sheet.now.height c.args.self.now.opened.now c.args.rows c.args.index c.has_horizontal.ensures c.if-not-has_horizontal.false)
    (c.in_ok-push_line_start.ensures then (c.in_ok-push_separator.ensures then c.push_line_end.ensures))
