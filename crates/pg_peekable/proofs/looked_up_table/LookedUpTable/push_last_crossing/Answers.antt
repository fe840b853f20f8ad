use Rattle.std.proofs.Common.{sym, ap, ◌∙◌}
use Rattle.pg_layout.specs.Position.{at}
use Rattle.pg_picture.specs.Inside.{items_after, last_color}
use Rattle.pg_picture.specs.Table.{crossing_at}
use Rattle.pg_picture.proofs.Appending.{Appends-text}
use Rattle.pg_picture.proofs.Separators.{IfOk-same}
use Rattle.pg_picture.proofs.WalksOfRows.{separator_part_end}
use Rattle.pg_peekable.proofs.looked_up_table.LookedUpTable.push_last_crossing.Goals as goal

pub returns-clause-appends : goal.returns-clause-appends
returns-clause-appends g c =
    let t = g.T.TableMarker.table in
    let pos = c.new.ensures ∙ ap (λ n. at c.args.row n) c.args.self.now.shape.columns in
    let place = ap (λ p. crossing_at t.config t.rows t.columns p) pos in
    Appends-text (ap (items_after c.args.run) (place ∙ sym (separator_part_end t c.args.row))) c.push_crossing.ensures.appends

pub returns-clause-color : goal.returns-clause-color
returns-clause-color g c =
    let t = g.T.TableMarker.table in
    let pos = c.new.ensures ∙ ap (λ n. at c.args.row n) c.args.self.now.shape.columns in
    let place = ap (λ p. crossing_at t.config t.rows t.columns p) pos in
    IfOk-same (ap (last_color c.args.run) (place ∙ sym (separator_part_end t c.args.row))) c.push_crossing.result c.push_crossing.ensures.color
