use Rattle.std.proofs.Common.{ap, refl, slice_index_or, None}
use Rattle.pg_picture.specs.Inside.{items_after, last_color}
use Rattle.pg_picture.specs.Table.{crossing_at}
use Rattle.pg_picture.proofs.Appending.{◌then◌, stopped, Gained-none, Gained-all, Appends-text}
use Rattle.pg_picture.proofs.Separators.{items_after-two, last_color-two, IfOk-same}
use Rattle.pg_stream.specs.Inside.{cell_items}
use Rattle.pg_stream.proofs.draw.PartsOfLines.{part-inside, part-outside}
use Rattle.pg_stream.proofs.draw.open_line.OpenLine.push_column.Goals as goal

pub returns-then-is_inside-clause-appends : goal.returns-then-is_inside-clause-appends
unfolding items_after
returns-then-is_inside-clause-appends g c =
    Appends-text (ap (items_after c.args.run) (part-inside g.T.TableMarker.table c.args.rows c.args.self.now.opened.now c.args.pos.row c.args.pos.col c.args.is_inside c.requires.inside c.if-is_inside.true)) (Gained-all (Gained-none c.args.buf.now))

pub returns-then-is_inside-clause-color : goal.returns-then-is_inside-clause-color
unfolding last_color
returns-then-is_inside-clause-color g c =
    ap (last_color c.args.run) (part-inside g.T.TableMarker.table c.args.rows c.args.self.now.opened.now c.args.pos.row c.args.pos.col c.args.is_inside c.requires.inside c.if-is_inside.true)

pub returns-in_err-run-clause-appends : goal.returns-in_err-run-clause-appends
returns-in_err-run-clause-appends g c =
    let t = g.T.TableMarker.table in
    let crossing = crossing_at t.config c.args.rows t.columns c.args.pos in
    let items = cell_items t c.args.rows (slice_index_or c.args.self.now.opened.now c.args.pos.col None) c.args.pos.row c.args.pos.col in
    let is = part-outside t c.args.rows c.args.self.now.opened.now c.args.pos.row c.args.pos.col c.args.is_inside c.requires.inside c.if-is_inside.false in
    Appends-text (items_after-two c.args.run crossing items is refl) (stopped (items_after (last_color c.args.run crossing) items) c.from_residual.ensures.0 c.in_err-run.ensures.appends)

pub returns-clause-appends : goal.returns-clause-appends
returns-clause-appends g c =
    let t = g.T.TableMarker.table in
    let crossing = crossing_at t.config c.args.rows t.columns c.args.pos in
    let items = cell_items t c.args.rows (slice_index_or c.args.self.now.opened.now c.args.pos.col None) c.args.pos.row c.args.pos.col in
    let is = part-outside t c.args.rows c.args.self.now.opened.now c.args.pos.row c.args.pos.col c.args.is_inside c.requires.inside c.if-is_inside.false in
    Appends-text (items_after-two c.args.run crossing items is c.in_ok-run.ensures.color) (c.in_ok-run.ensures.appends then c.push_item.ensures.appends)

pub returns-clause-color : goal.returns-clause-color
returns-clause-color g c =
    let t = g.T.TableMarker.table in
    let crossing = crossing_at t.config c.args.rows t.columns c.args.pos in
    let items = cell_items t c.args.rows (slice_index_or c.args.self.now.opened.now c.args.pos.col None) c.args.pos.row c.args.pos.col in
    let is = part-outside t c.args.rows c.args.self.now.opened.now c.args.pos.row c.args.pos.col c.args.is_inside c.requires.inside c.if-is_inside.false in
    IfOk-same (last_color-two c.args.run crossing items is c.in_ok-run.ensures.color) c.push_item.result c.push_item.ensures.color
