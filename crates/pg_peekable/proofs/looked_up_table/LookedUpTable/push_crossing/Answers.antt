use Rattle.std.proofs.Common.{ap}
use Rattle.pg_picture.specs.Inside.{items_after, last_color}
use Rattle.pg_picture.specs.Table.{crossing_at}
use Rattle.pg_picture.proofs.Appending.{Appends-text}
use Rattle.pg_picture.proofs.Separators.{IfOk-same}
use Rattle.pg_peekable.proofs.looked_up_table.LookedUpTable.push_crossing.Goals as goal

pub returns-clause-appends : goal.returns-clause-appends
returns-clause-appends g c =
    let t = g.T.TableMarker.table in
    Appends-text (ap (λ n. items_after c.args.run (crossing_at t.config n t.columns c.args.pos)) c.args.self.now.shape.rows) c.push_crossing.ensures.appends

pub returns-clause-color : goal.returns-clause-color
returns-clause-color g c =
    let t = g.T.TableMarker.table in
    IfOk-same (ap (λ n. last_color c.args.run (crossing_at t.config n t.columns c.args.pos)) c.args.self.now.shape.rows) c.push_crossing.result c.push_crossing.ensures.color
