use Rattle.std.proofs.Common.{◌≡◌, ◌<◌, ap, sym, ◌∙◌, arith, flat_map}
use Rattle.std.specs.List.{range_with_len}
use Rattle.pg_layout.specs.declared.position.Position.{Position}
use Rattle.pg_config.specs.Spans.{left_span}
use Rattle.pg_picture.specs.Pieces.{written}
use Rattle.pg_picture.specs.Table.{row_part}
use Rattle.pg_picture.specs.Inside.{columns_or_one}
use Rattle.pg_picture.proofs.Appending.{Appends-text, Gained-none, Gained-text, Gained-more, Gained-all, refused}
use Rattle.pg_picture.proofs.PiecesOfLines.{written-nil}
use Rattle.pg_picture.proofs.FirstPlaces.{step-some, step-inside, step-left}
use Rattle.pg_picture.proofs.OwnersOfPlaces.{first_left}
use Rattle.pg_picture.proofs.FittingTables.{totals_facts}
use Rattle.pg_peekable.proofs.CanDraw.{in_order}
use Rattle.pg_peekable.proofs.RowParts.{written-columns_cut, step-text}
use Rattle.pg_peekable.proofs.looked_up_table.LookedUpTable.push_spanned_parts.Goals as goal

pub loop-column-init : goal.loop-column-init
loop-column-init g c =
    let t = g.T.TableMarker.table in
    record { gained = Gained-text (sym written-nil) (Gained-none c.args.buf.now); left = first_left t.config.spans t.rows t.columns (in_order t c.args.self.now.can) c.args.line.now.row; inside = omega arith }

pub push_spanned_part-requires : goal.push_spanned_part-requires
push_spanned_part-requires g c =
    let t = g.T.TableMarker.table in
    let here : c.loop-column.column < t.columns = omega (arith, c.loop-column-test.true, c.args.self.now.shape.columns) in
    let span = c.left_span-span.ensures ∙ ap (λ (p : Position). left_span t.config.spans p.row p.col) c.new.ensures in
    record { begins = record { column = here; left = c.loop-column.invariant.left; span = span } }

pub returns-in_err-push_spanned_part : goal.returns-in_err-push_spanned_part
returns-in_err-push_spanned_part g c =
    let t = g.T.TableMarker.table in
    let here : c.loop-column.column < t.columns = omega (arith, c.loop-column-test.true, c.args.self.now.shape.columns) in
    refused _ (written-columns_cut (row_part t c.args.line.now.row c.args.line.now.number) c.loop-column.column t.columns here) c.from_residual.ensures.0 c.loop-column.invariant.gained c.in_err-push_spanned_part.ensures

pub overflow_add-column : goal.overflow_add-column
overflow_add-column g c =
    let t = g.T.TableMarker.table in
    let here : c.loop-column.column < t.columns = omega (arith, c.loop-column-test.true, c.args.self.now.shape.columns) in
    let spans = t.config.spans in
    let span = c.left_span-span.ensures ∙ ap (λ (p : Position). left_span spans p.row p.col) c.new.ensures in
    let width : c.columns_of-column.result ≡ columns_or_one (left_span spans c.args.line.now.row c.loop-column.column) = c.columns_of-column.ensures ∙ ap columns_or_one span in
    omega (arith, step-inside t.config.spans t.rows t.columns (in_order t c.args.self.now.can) c.args.line.now.row c.loop-column.column c.columns_of-column.result width c.loop-column.invariant.left here, (totals_facts t c.args.self.now.can.fits.totals).columns)

pub loop-column-preserved : goal.loop-column-preserved
loop-column-preserved g c =
    let t = g.T.TableMarker.table in
    let here : c.loop-column.column < t.columns = omega (arith, c.loop-column-test.true, c.args.self.now.shape.columns) in
    let spans = t.config.spans in
    let span = c.left_span-span.ensures ∙ ap (λ (p : Position). left_span spans p.row p.col) c.new.ensures in
    let width : c.columns_of-column.result ≡ columns_or_one (left_span spans c.args.line.now.row c.loop-column.column) = c.columns_of-column.ensures ∙ ap columns_or_one span in
    let text = step-text t (in_order t c.args.self.now.can) c.args.line.now.row c.loop-column.column c.columns_of-column.result width c.loop-column.invariant.left here c.args.line.now.number in
    record {
      gained = Gained-text (sym text) (Gained-more c.loop-column.invariant.gained c.in_ok-push_spanned_part.ensures);
      left = step-left t.config.spans t.rows t.columns (in_order t c.args.self.now.can) c.args.line.now.row c.loop-column.column c.columns_of-column.result width c.loop-column.invariant.left here;
      inside = step-inside t.config.spans t.rows t.columns (in_order t c.args.self.now.can) c.args.line.now.row c.loop-column.column c.columns_of-column.result width c.loop-column.invariant.left here;
    }

pub loop-column-smaller : goal.loop-column-smaller
loop-column-smaller g c =
    let t = g.T.TableMarker.table in
    let here : c.loop-column.column < t.columns = omega (arith, c.loop-column-test.true, c.args.self.now.shape.columns) in
    let spans = t.config.spans in
    let span = c.left_span-span.ensures ∙ ap (λ (p : Position). left_span spans p.row p.col) c.new.ensures in
    let width : c.columns_of-column.result ≡ columns_or_one (left_span spans c.args.line.now.row c.loop-column.column) = c.columns_of-column.ensures ∙ ap columns_or_one span in
    omega (arith, step-some t.config.spans t.rows t.columns (in_order t c.args.self.now.can) c.args.line.now.row c.loop-column.column c.columns_of-column.result width c.loop-column.invariant.left here, c.loop-column-test.true)

pub returns : goal.returns
returns g c =
    let t = g.T.TableMarker.table in
    let ended : c.loop-column.column ≡ t.columns = omega (arith, c.loop-column.invariant.inside, c.loop-column-test.false, c.args.self.now.shape.columns) in
    Appends-text (ap (λ n. written (flat_map (row_part t c.args.line.now.row c.args.line.now.number) (range_with_len 0 n))) ended) (Gained-all c.loop-column.invariant.gained)
