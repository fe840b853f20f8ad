use Rattle.std.proofs.Common.{◌≡◌, sym, ap, arith}
use Rattle.pg_layout.specs.declared.position.Position.{Position}
use Rattle.pg_picture.specs.Pieces.{written}
use Rattle.pg_picture.specs.Table.{vertical}
use Rattle.pg_picture.proofs.Appending.{Gained-none, Gained-text, Gained-more, gained-then, refused, Appends-text}
use Rattle.pg_picture.proofs.PiecesOfLines.{written-nil}
use Rattle.pg_stream.specs.Inside.{open_part}
use Rattle.pg_stream.proofs.draw.PartsOfLines.{written-columns, line-cut, line-end}
use Rattle.pg_stream.proofs.draw.open_line.OpenLine.push_line_of_row.Goals as goal

pub loop-column-init : goal.loop-column-init
loop-column-init g c = Gained-text (sym written-nil) (Gained-none c.args.buf.now)

pub loop-column-preserved : goal.loop-column-preserved
loop-column-preserved g c =
    let t = g.T.TableMarker.table in
    let place = ap (λ (p : Position). written (open_part t c.args.self.now.opened.now p.row c.args.line p.col)) c.new.ensures in
    Gained-text (sym (written-columns (open_part t c.args.self.now.opened.now c.args.row c.args.line) c.loop-column.column)) (Gained-more c.loop-column.invariant (Appends-text place c.in_ok-push_part.ensures))

pub returns-in_err-push_part : goal.returns-in_err-push_part
returns-in_err-push_part g c =
    let t = g.T.TableMarker.table in
    let place = ap (λ (p : Position). written (open_part t c.args.self.now.opened.now p.row c.args.line p.col)) c.new.ensures in
    refused _ (line-cut t c.args.self.now.opened.now c.args.row c.args.line c.loop-column.column (omega arith)) c.from_residual.ensures.0 c.loop-column.invariant (Appends-text place c.in_err-push_part.ensures)

pub returns : goal.returns
returns g c =
    let t = g.T.TableMarker.table in
    let ended : c.loop-column.column ≡ t.columns = omega arith in
    let place = ap (λ (p : Position). written (vertical t p.row c.args.line p.col)) c.new-2.ensures in
    Appends-text (line-end t c.args.self.now.opened.now c.args.row c.args.line c.loop-column.column c.columns.result ended c.columns.ensures) (gained-then c.loop-column.invariant (Appends-text place c.push_vertical.ensures))
