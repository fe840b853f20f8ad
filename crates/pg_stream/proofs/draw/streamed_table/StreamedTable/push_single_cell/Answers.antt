use Rattle.std.proofs.Common.{refl}
use Rattle.pg_picture.specs.Pieces.{block_line, style_at, written}
use Rattle.pg_picture.proofs.Appending.{◌then◌, stopped, Appends-text}
use Rattle.pg_stream.proofs.draw.SingleLines.{part-room, part-text}
use Rattle.pg_stream.proofs.draw.streamed_table.StreamedTable.push_single_cell.Goals as goal

pub returns-in_err-push_vertical : goal.returns-in_err-push_vertical
returns-in_err-push_vertical g c =
    let t = g.T.TableMarker.table in
    let p = c.args.pos in
    Appends-text (part-text t p.row p.col p (style_at t.config p) (t.color p) (t.width p.col) c.args.text.now refl refl refl refl)
    (stopped (written (block_line (style_at t.config p) (t.color p) c.args.text.now (t.width p.col) 1 0)) c.from_residual.ensures.0 c.in_err-push_vertical.ensures)

pub invariant_of-cell : goal.invariant_of-cell
invariant_of-cell g c =
    let t = g.T.TableMarker.table in
    let p = c.args.pos in
    record {
      is_known = c.requires.kind;
      has_room = part-room t p.row c.requires.single.alone c.requires.single.height p.col p c.width_of.result c.args.text.now refl c.width_of.ensures c.requires.room;
    }

pub returns : goal.returns
returns g c =
    let t = g.T.TableMarker.table in
    let p = c.args.pos in
    Appends-text (part-text t p.row p.col p (style_at t.config p) (t.color p) c.width_of.result c.args.text.now refl refl refl c.width_of.ensures)
    (c.in_ok-push_vertical.ensures then c.push_single.ensures)
