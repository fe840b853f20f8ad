use Rattle.std.proofs.Common.{◌≡◌, ◌<◌, refl, ap, ◌∙◌, arith, flat_map}
use Rattle.std.specs.List.{range_with_len}
use Rattle.pg_layout.specs.declared.position.Position.{Position}
use Rattle.pg_config.specs.Spans.{span_above}
use Rattle.pg_picture.specs.Inside.{items_after, last_color, columns_or_one}
use Rattle.pg_picture.specs.Table.{separator_part}
use Rattle.pg_picture.proofs.Appending.{Appends-text, Gained-none, Gained-text, Gained-more, Gained-all, refused}
use Rattle.pg_picture.proofs.FittingTables.{totals_facts}
use Rattle.pg_picture.proofs.Separators.{items_after-two, last_color-two, items_after-columns_cut}
use Rattle.pg_picture.proofs.WalksOfRows.{first_start}
use Rattle.pg_peekable.proofs.CanDraw.{in_order}
use Rattle.pg_peekable.proofs.RowParts.{above-some, above-inside, above-start, above-parts}
use Rattle.pg_peekable.proofs.looked_up_table.LookedUpTable.push_spanned_columns.Goals as goal

pub loop-column-init : goal.loop-column-init
unfolding items_after last_color
loop-column-init g c =
    let t = g.T.TableMarker.table in
    record { gained = Gained-none c.args.buf.now; color = refl; start = first_start t (in_order t c.args.self.now.can) c.args.separator.now.row; inside = omega arith }

pub push_spanned_column-requires : goal.push_spanned_column-requires
push_spanned_column-requires g c =
    let t = g.T.TableMarker.table in
    let here : c.loop-column.column < t.columns = omega (arith, c.loop-column-test.true, c.args.self.now.shape.columns) in
    let span = c.span_above-span.ensures ∙ ap (λ (p : Position). span_above t.config.spans p.row p.col) c.new.ensures in
    record { begins = record { column = here; starts = c.loop-column.invariant.start; span = span } }

pub returns-in_err-run-clause-appends : goal.returns-in_err-run-clause-appends
returns-in_err-run-clause-appends g c =
    let t = g.T.TableMarker.table in
    let here : c.loop-column.column < t.columns = omega (arith, c.loop-column-test.true, c.args.self.now.shape.columns) in
    refused _ (items_after-columns_cut c.args.run (separator_part t c.args.separator.now.row) c.loop-column.column t.columns c.loop-column.invariant.color here) c.from_residual.ensures.0 c.loop-column.invariant.gained c.in_err-run.ensures.appends

pub overflow_add-column : goal.overflow_add-column
overflow_add-column g c =
    let t = g.T.TableMarker.table in
    let here : c.loop-column.column < t.columns = omega (arith, c.loop-column-test.true, c.args.self.now.shape.columns) in
    let spans = t.config.spans in
    let span = c.span_above-span.ensures ∙ ap (λ (p : Position). span_above spans p.row p.col) c.new.ensures in
    let width : c.columns_of-column.result ≡ columns_or_one (span_above spans c.args.separator.now.row c.loop-column.column) = c.columns_of-column.ensures ∙ ap columns_or_one span in
    omega (arith, above-inside t (in_order t c.args.self.now.can) c.args.separator.now.row c.loop-column.column c.columns_of-column.result width c.loop-column.invariant.start here, (totals_facts t c.args.self.now.can.fits.totals).columns)

pub loop-column-preserved : goal.loop-column-preserved
loop-column-preserved g c =
    let t = g.T.TableMarker.table in
    let here : c.loop-column.column < t.columns = omega (arith, c.loop-column-test.true, c.args.self.now.shape.columns) in
    let spans = t.config.spans in
    let span = c.span_above-span.ensures ∙ ap (λ (p : Position). span_above spans p.row p.col) c.new.ensures in
    let width : c.columns_of-column.result ≡ columns_or_one (span_above spans c.args.separator.now.row c.loop-column.column) = c.columns_of-column.ensures ∙ ap columns_or_one span in
    let so_far = flat_map (separator_part t c.args.separator.now.row) (range_with_len 0 c.loop-column.column) in
    let one = separator_part t c.args.separator.now.row c.loop-column.column in
    let parts = above-parts t (in_order t c.args.self.now.can) c.args.separator.now.row c.loop-column.column c.columns_of-column.result width c.loop-column.invariant.start here in
    record {
      gained = Gained-text (items_after-two c.args.run so_far one parts c.loop-column.invariant.color) (Gained-more c.loop-column.invariant.gained c.in_ok-run.ensures.appends);
      color = c.in_ok-run.ensures.color ∙ last_color-two c.args.run so_far one parts c.loop-column.invariant.color;
      start = above-start t (in_order t c.args.self.now.can) c.args.separator.now.row c.loop-column.column c.columns_of-column.result width c.loop-column.invariant.start here;
      inside = above-inside t (in_order t c.args.self.now.can) c.args.separator.now.row c.loop-column.column c.columns_of-column.result width c.loop-column.invariant.start here;
    }

pub loop-column-smaller : goal.loop-column-smaller
loop-column-smaller g c =
    let t = g.T.TableMarker.table in
    let here : c.loop-column.column < t.columns = omega (arith, c.loop-column-test.true, c.args.self.now.shape.columns) in
    let spans = t.config.spans in
    let span = c.span_above-span.ensures ∙ ap (λ (p : Position). span_above spans p.row p.col) c.new.ensures in
    let width : c.columns_of-column.result ≡ columns_or_one (span_above spans c.args.separator.now.row c.loop-column.column) = c.columns_of-column.ensures ∙ ap columns_or_one span in
    omega (arith, above-some t (in_order t c.args.self.now.can) c.args.separator.now.row c.loop-column.column c.columns_of-column.result width c.loop-column.invariant.start here, c.loop-column-test.true)

pub returns-clause-appends : goal.returns-clause-appends
returns-clause-appends g c =
    let t = g.T.TableMarker.table in
    let ended : c.loop-column.column ≡ t.columns = omega (arith, c.loop-column.invariant.inside, c.loop-column-test.false, c.args.self.now.shape.columns) in
    Appends-text (ap (λ n. items_after c.args.run (flat_map (separator_part t c.args.separator.now.row) (range_with_len 0 n))) ended) (Gained-all c.loop-column.invariant.gained)

pub returns-clause-color : goal.returns-clause-color
returns-clause-color g c =
    let t = g.T.TableMarker.table in
    let ended : c.loop-column.column ≡ t.columns = omega (arith, c.loop-column.invariant.inside, c.loop-column-test.false, c.args.self.now.shape.columns) in
    c.loop-column.invariant.color ∙ ap (λ n. last_color c.args.run (flat_map (separator_part t c.args.separator.now.row) (range_with_len 0 n))) ended
