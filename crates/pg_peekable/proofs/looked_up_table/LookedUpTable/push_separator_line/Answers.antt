use Rattle.std.proofs.Common.{◌++◌, ap, ◌∙◌}
use Rattle.pg_picture.specs.Inside.{line_end}
use Rattle.pg_picture.specs.Marks.{sep}
use Rattle.pg_picture.specs.Table.{mark_text}
use Rattle.pg_picture.proofs.Appending.{Appends-text, ◌then◌, stopped}
use Rattle.pg_picture.proofs.Pictures.{line-text}
use Rattle.pg_peekable.proofs.looked_up_table.LookedUpTable.push_separator_line.Goals as goal

pub returns-in_err-push_line_start : goal.returns-in_err-push_line_start
unfolding mark_text
returns-in_err-push_line_start g c =
    let t = g.T.TableMarker.table in
    let mark = (sep c.args.separator.now.row) in
    let self = c.args.self.now in
    Appends-text (line-text t c.args.index mark (ap (λ s. s.height) c.pen-pen.ensures ∙ self.shape.height)) (stopped (mark_text t mark ++ line_end t.config c.pen-pen.result.sheet.now.height c.args.index) c.from_residual.ensures.0 c.in_err-push_line_start.ensures)

pub returns-in_err-push_separator : goal.returns-in_err-push_separator
unfolding mark_text
returns-in_err-push_separator g c =
    let t = g.T.TableMarker.table in
    let self = c.args.self.now in
    Appends-text (line-text t c.args.index (sep c.args.separator.now.row) (ap (λ s. s.height) c.pen-pen.ensures ∙ self.shape.height)) (c.in_ok-push_line_start.ensures then stopped (line_end t.config c.pen-pen.result.sheet.now.height c.args.index) c.from_residual-in_err-push_separator.ensures.0 c.in_err-push_separator.ensures)

pub returns : goal.returns
unfolding mark_text
returns g c = Appends-text (line-text g.T.TableMarker.table c.args.index (sep c.args.separator.now.row) (ap (λ s. s.height) c.pen-pen.ensures ∙ c.args.self.now.shape.height)) (c.in_ok-push_line_start.ensures then (c.in_ok-push_separator.ensures then c.push_line_end.ensures))
