use Rattle.std.proofs.Common.{◌≡◌, ◌<◌, sym, ap, arith, flat_map}
use Rattle.std.specs.List.{range_with_len}
use Rattle.pg_layout.specs.Position.{at}
use Rattle.pg_picture.specs.Pieces.{written}
use Rattle.pg_picture.specs.Table.{row_part}
use Rattle.pg_picture.proofs.Appending.{Gained-none, Gained-text, Gained-more, Gained-all, refused, Appends-text}
use Rattle.pg_picture.proofs.PiecesOfLines.{written-nil}
use Rattle.pg_peekable.proofs.CanDraw.{plain_room}
use Rattle.pg_peekable.proofs.RowParts.{part-text, written-columns, written-columns_cut}
use Rattle.pg_peekable.proofs.looked_up_table.LookedUpTable.push_parts.Goals as goal

pub loop-column-init : goal.loop-column-init
loop-column-init g c = Gained-text (sym written-nil) (Gained-none c.args.buf.now)

pub push_part-requires : goal.push_part-requires
push_part-requires g c =
    let t = g.T.TableMarker.table in
    let line = c.args.line.now in
    let here : c.loop-column.column < t.columns = omega (arith, c.args.self.now.shape.columns) in
    let room = plain_room t c.args.self.now.can (c.args.self.now.is_alone c.if-self.false) (at line.row c.loop-column.column) line.is.row here in
    record { cell = record { row = line.is.row; column = here; room = room; line = line.is.line } }

pub loop-column-preserved : goal.loop-column-preserved
loop-column-preserved g c =
    let t = g.T.TableMarker.table in
    let line = c.args.line.now in
    let here : c.loop-column.column < t.columns = omega (arith, c.args.self.now.shape.columns) in
    let text = part-text t (c.args.self.now.is_alone c.if-self.false) (at line.row c.loop-column.column) line.number line.is.row here line.is.line in
    Gained-text (sym (written-columns (row_part t line.row line.number) c.loop-column.column)) (Gained-more c.loop-column.invariant (Appends-text text c.in_ok-push_part.ensures))

pub returns-in_err-push_part : goal.returns-in_err-push_part
returns-in_err-push_part g c =
    let t = g.T.TableMarker.table in
    let line = c.args.line.now in
    let here : c.loop-column.column < t.columns = omega (arith, c.args.self.now.shape.columns) in
    let text = part-text t (c.args.self.now.is_alone c.if-self.false) (at line.row c.loop-column.column) line.number line.is.row here line.is.line in
    refused _ (written-columns_cut (row_part t line.row line.number) c.loop-column.column t.columns here) c.from_residual.ensures.0 c.loop-column.invariant (Appends-text text c.in_err-push_part.ensures)

pub returns : goal.returns
returns g c =
    let t = g.T.TableMarker.table in
    let line = c.args.line.now in
    let ended : c.loop-column.column ≡ t.columns = omega (arith, c.args.self.now.shape.columns) in
    Appends-text (ap (λ n. written (flat_map (row_part t line.row line.number) (range_with_len 0 n))) ended) (Gained-all c.loop-column.invariant)
