use Rattle.std.proofs.Common.{ℕ, ◌++◌, List, refl, sym, ap}
use Rattle.pg_config.specs.Config.{get_horizontal}
use Rattle.pg_picture.specs.Pieces.{Item}
use Rattle.pg_picture.specs.Inside.{items_after, last_color}
use Rattle.pg_picture.specs.Table.{crossing_at, border_items}
use Rattle.pg_picture.proofs.Appending.{Appends-text, ◌then◌, stopped}
use Rattle.pg_picture.proofs.Separators.{items_after-two, last_color-two, IfOk-same}
use Rattle.pg_peekable.proofs.looked_up_table.LookedUpTable.push_column.Goals as goal

pub returns-in_err-run-clause-appends : goal.returns-in_err-run-clause-appends
returns-in_err-run-clause-appends g c =
    let t = g.T.TableMarker.table in
    let crossing = crossing_at t.config t.rows t.columns c.args.pos in
    let border = border_items t.config c.args.pos t.rows (t.width c.args.pos.col) (get_horizontal t.config c.args.pos t.rows) in
    Appends-text (items_after-two c.args.run crossing border refl refl) (stopped (items_after (last_color c.args.run crossing) border) c.from_residual.ensures.0 c.in_err-run.ensures.appends)

pub returns-clause-appends : goal.returns-clause-appends
returns-clause-appends g c =
    let t = g.T.TableMarker.table in
    let self = c.args.self.now in
    let crossing = crossing_at t.config t.rows t.columns c.args.pos in
    let border : ℕ → List Item = λ rows. border_items t.config c.args.pos rows (t.width c.args.pos.col) (get_horizontal t.config c.args.pos rows) in
    let is = ap (λ rows. crossing ++ border rows) (sym self.shape.rows) in
    Appends-text (items_after-two c.args.run crossing (border self.rows) is c.in_ok-run.ensures.color) (c.in_ok-run.ensures.appends then c.push_border.ensures.appends)

pub returns-clause-color : goal.returns-clause-color
returns-clause-color g c =
    let t = g.T.TableMarker.table in
    let self = c.args.self.now in
    let crossing = crossing_at t.config t.rows t.columns c.args.pos in
    let border : ℕ → List Item = λ rows. border_items t.config c.args.pos rows (t.width c.args.pos.col) (get_horizontal t.config c.args.pos rows) in
    let is = ap (λ rows. crossing ++ border rows) (sym self.shape.rows) in
    IfOk-same (last_color-two c.args.run crossing (border self.rows) is c.in_ok-run.ensures.color) c.push_border.result c.push_border.ensures.color
