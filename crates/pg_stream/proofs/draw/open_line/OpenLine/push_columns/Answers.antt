use Rattle.std.proofs.Common.{ℕ, List, refl, sym, ap, ◌∙◌, nat_lt, max, slice_index_or, None, arith}
use Rattle.pg_layout.specs.declared.position.Position.{Position}
use Rattle.pg_picture.specs.Pieces.{Item}
use Rattle.pg_picture.specs.Inside.{items_after, last_color}
use Rattle.pg_picture.proofs.Appending.{Gained-none, Gained-text, Gained-more, refused, Appends-text}
use Rattle.pg_picture.proofs.Separators.{items_after-columns, last_color-columns, items_after-columns_cut}
use Rattle.pg_stream.specs.Inside.{reach, column_end, open_separator_part}
use Rattle.pg_stream.proofs.draw.PartsOfLines.{reach-none, reach-more}
use Rattle.pg_stream.proofs.draw.open_line.OpenLine.push_columns.Goals as goal

pub loop-column-init : goal.loop-column-init
unfolding items_after last_color
loop-column-init g c = record { gained = Gained-none c.args.buf.now; color = refl; ends = reach-none g.T.TableMarker.table.config.spans c.args.self.now.opened.now }

pub push_column-requires : goal.push_column-requires
push_column-requires g c =
    let spans = g.T.TableMarker.table.config.spans in
    record { inside = ap (λ n. nat_lt c.loop-column.column n) c.loop-column.invariant.ends ∙ sym (ap (λ (p : Position). nat_lt p.col (reach spans c.args.self.now.opened.now p.col)) c.new-pos.ensures) }

pub returns-in_err-run-clause-appends : goal.returns-in_err-run-clause-appends
returns-in_err-run-clause-appends g c =
    let t = g.T.TableMarker.table in
    let part : ℕ → List Item = open_separator_part t c.args.rows c.args.self.now.opened.now c.args.row in
    let place = ap (λ (p : Position). items_after c.loop-column.run (open_separator_part t c.args.rows c.args.self.now.opened.now p.row p.col)) c.new-pos.ensures in
    refused _ (items_after-columns_cut c.args.run part c.loop-column.column t.columns c.loop-column.invariant.color (omega arith)) c.from_residual.ensures.0 c.loop-column.invariant.gained (Appends-text place c.in_err-run.ensures.appends)

pub loop-column-preserved : goal.loop-column-preserved
loop-column-preserved g c =
    let t = g.T.TableMarker.table in
    let part : ℕ → List Item = open_separator_part t c.args.rows c.args.self.now.opened.now c.args.row in
    let place = ap (λ (p : Position). items_after c.loop-column.run (open_separator_part t c.args.rows c.args.self.now.opened.now p.row p.col)) c.new-pos.ensures in
    let place_color = ap (λ (p : Position). last_color c.loop-column.run (open_separator_part t c.args.rows c.args.self.now.opened.now p.row p.col)) c.new-pos.ensures in
    record {
      gained = Gained-text (sym (items_after-columns c.args.run part c.loop-column.column c.loop-column.invariant.color)) (Gained-more c.loop-column.invariant.gained (Appends-text place c.in_ok-run.ensures.appends));
      color = c.in_ok-run.ensures.color ∙ place_color ∙ last_color-columns c.args.run part c.loop-column.column c.loop-column.invariant.color;
      ends = c.end_past-end.ensures ∙ ap (λ n. max n (column_end t.config.spans (slice_index_or c.args.self.now.opened.now c.loop-column.column None) c.loop-column.column)) c.loop-column.invariant.ends ∙ reach-more t.config.spans c.args.self.now.opened.now c.loop-column.column;
    }
