use Rattle.std.proofs.Common.{◌<◌, ◌++◌, refl, sym, ap, ◌∙◌, arith}
use Rattle.pg_layout.specs.Position.{at}
use Rattle.pg_layout.specs.declared.position.Position.{Position}
use Rattle.pg_config.specs.Config.{get_horizontal}
use Rattle.pg_picture.specs.Inside.{items_after, last_color}
use Rattle.pg_picture.specs.Table.{separator_part, crossing_at, border_items}
use Rattle.pg_picture.proofs.Appending.{Gained-none, Gained-text, Gained-more, refused, Appends-text}
use Rattle.pg_picture.proofs.Separators.{column-items, items_after-columns, last_color-columns, items_after-columns_cut}
use Rattle.pg_peekable.proofs.looked_up_table.LookedUpTable.push_columns.Goals as goal

pub loop-column-init : goal.loop-column-init
unfolding items_after last_color
loop-column-init g c = record { gained = Gained-none c.args.buf.now; color = refl }

pub returns-in_err-run-clause-appends : goal.returns-in_err-run-clause-appends
returns-in_err-run-clause-appends g c =
    let t = g.T.TableMarker.table in
    let here : c.loop-column.column < t.columns = omega (arith, c.args.self.now.shape.columns) in
    let row = c.args.separator.now.row in
    let col = c.loop-column.column in
    let place = ap (λ (p : Position). crossing_at t.config t.rows t.columns p ++ border_items t.config p t.rows (t.width p.col) (get_horizontal t.config p t.rows)) c.new.ensures in
    let items = sym (column-items t (c.args.self.now.is_alone c.if-self.false) t.rows t.columns (t.width col) (at row col) refl refl refl here) in
    let is = place ∙ items in
    refused _ (items_after-columns_cut c.args.run (separator_part t row) col t.columns c.loop-column.invariant.color here) c.from_residual.ensures.0 c.loop-column.invariant.gained (Appends-text (ap (items_after c.loop-column.run) is) c.in_err-run.ensures.appends)

pub loop-column-preserved : goal.loop-column-preserved
loop-column-preserved g c =
    let t = g.T.TableMarker.table in
    let here : c.loop-column.column < t.columns = omega (arith, c.args.self.now.shape.columns) in
    let row = c.args.separator.now.row in
    let col = c.loop-column.column in
    let place = ap (λ (p : Position). crossing_at t.config t.rows t.columns p ++ border_items t.config p t.rows (t.width p.col) (get_horizontal t.config p t.rows)) c.new.ensures in
    let items = sym (column-items t (c.args.self.now.is_alone c.if-self.false) t.rows t.columns (t.width col) (at row col) refl refl refl here) in
    let is = place ∙ items in
    record {
      gained = Gained-text (sym (items_after-columns c.args.run (separator_part t row) col c.loop-column.invariant.color)) (Gained-more c.loop-column.invariant.gained (Appends-text (ap (items_after c.loop-column.run) is) c.in_ok-run.ensures.appends));
      color = c.in_ok-run.ensures.color ∙ ap (last_color c.loop-column.run) is ∙ last_color-columns c.args.run (separator_part t row) col c.loop-column.invariant.color;
    }
