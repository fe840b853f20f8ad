use Rattle.std.proofs.Common.{◌≡◌, ◌∙◌, [], slice_index_or, sym, ap, subst, arith}
use Rattle.pg_layout.specs.declared.position.Position.{Position}
use Rattle.pg_layout.specs.Position.{at}
use Rattle.pg_layout.specs.Text.{Text}
use Rattle.pg_picture.specs.Inside.{IsOfKind}
use Rattle.pg_picture.specs.Pieces.{written}
use Rattle.pg_picture.specs.Table.{vertical}
use Rattle.pg_picture.proofs.Appending.{Appends-text, Gained-none, Gained-text, Gained-more, gained-then, refused}
use Rattle.pg_picture.proofs.PiecesOfLines.{written-nil}
use Rattle.pg_stream.specs.Conditions.{HasRoom}
use Rattle.pg_stream.specs.Inside.{IsSingle, single_part}
use Rattle.pg_stream.proofs.draw.Beginning.{read-more, read-none}
use Rattle.pg_stream.proofs.draw.PartsOfLines.{written-columns}
use Rattle.pg_stream.proofs.draw.SingleLines.{single-cut, single-end, own-plain}
use Rattle.pg_stream.proofs.draw.streamed_table.StreamedTable.push_single_cells.Goals as goal

pub loop-column-init : goal.loop-column-init
loop-column-init g c = λ texts gives. (gives, Gained-text (sym written-nil) (Gained-none c.args.buf.now))

pub returns-in_default : goal.returns-in_default
returns-in_default g c = λ texts gives.
    let (told, told_gives, is) = c.requires in
    absurd (read-none g.S.AsStr.text g.I.Iterator.next_gives _ _ told c.loop-column.column (omega (arith, is.whole, c.loop-column-test.true)) (c.loop-column.invariant told told_gives.gives).0 c.in_default.ensures.steps)

pub push_single_cell-requires : goal.push_single_cell-requires
push_single_cell-requires g c =
    let t = g.T.TableMarker.table in
    let (texts, gives, is) = c.requires in
    let i = c.loop-column.column in
    let now = read-more g.S.AsStr.text g.I.Iterator.next_gives _ _ _ texts i (c.loop-column.invariant texts gives.gives).0 c.in-Some.ensures.steps in
    let text = now.0 ∙ sym c.as_str.ensures in
    record {
      single = subst (λ (p : Position). IsSingle g.T.TableMarker.table p.row) (sym c.new.ensures) is.single;
      kind = subst (IsOfKind c.args.kind) text (is.kinds i (omega arith));
      room = subst (λ (p : Position). HasRoom t p c.as_str.result.now) (sym c.new.ensures) (subst (λ (text : Text). HasRoom t (at c.args.row i) text) text (is.rooms i (omega arith) (own-plain t is.single.alone c.args.row i)));
    }

pub returns-in_err-push_single_cell : goal.returns-in_err-push_single_cell
returns-in_err-push_single_cell g c = λ texts gives.
    let t = g.T.TableMarker.table in
    let i = c.loop-column.column in
    let (left, gained) = c.loop-column.invariant texts gives in
    let now = read-more g.S.AsStr.text g.I.Iterator.next_gives _ _ _ texts i left c.in-Some.ensures.steps in
    refused _ (single-cut t c.args.row texts i (omega arith)) c.from_residual.ensures.0 gained (Appends-text (ap (λ (p : Position). written (single_part t p.row c.as_str.result.now p.col)) c.new.ensures ∙ ap (λ (text : Text). written (single_part t c.args.row text i)) (c.as_str.ensures ∙ sym now.0)) c.in_err-push_single_cell.ensures)

pub loop-column-preserved : goal.loop-column-preserved
loop-column-preserved g c = λ texts gives.
    let t = g.T.TableMarker.table in
    let i = c.loop-column.column in
    let (left, gained) = c.loop-column.invariant texts gives in
    let now = read-more g.S.AsStr.text g.I.Iterator.next_gives _ _ _ texts i left c.in-Some.ensures.steps in
    (now.1, Gained-text (sym (written-columns (λ x. single_part t c.args.row (slice_index_or texts x []) x) i)) (Gained-more gained (Appends-text (ap (λ (p : Position). written (single_part t p.row c.as_str.result.now p.col)) c.new.ensures ∙ ap (λ (text : Text). written (single_part t c.args.row text i)) (c.as_str.ensures ∙ sym now.0)) c.in_ok-push_single_cell.ensures)))

pub returns : goal.returns
returns g c = λ texts gives.
    let t = g.T.TableMarker.table in
    let ended : c.loop-column.column ≡ t.columns = omega arith in
    let place = ap (λ (p : Position). written (vertical t p.row 0 p.col)) c.new-2.ensures in
    Appends-text (single-end t c.args.row texts c.loop-column.column ended) (gained-then (c.loop-column.invariant texts gives).1 (Appends-text (place ∙ ap (λ n. written (vertical t c.args.row 0 n)) c.columns.ensures) c.push_vertical.ensures))
