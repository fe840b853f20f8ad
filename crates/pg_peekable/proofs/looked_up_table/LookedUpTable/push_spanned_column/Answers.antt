use Rattle.std.proofs.Common.{◌++◌, ap, sym, ◌∙◌}
use Rattle.pg_layout.specs.Position.{at}
use Rattle.pg_layout.specs.declared.position.Position.{Position}
use Rattle.pg_config.specs.Config.{get_horizontal}
use Rattle.pg_picture.specs.Inside.{items_after, last_color}
use Rattle.pg_picture.specs.Table.{crossing_at, border_items}
use Rattle.pg_picture.proofs.Appending.{Appends-text}
use Rattle.pg_picture.proofs.Separators.{IfOk-same}
use Rattle.pg_peekable.proofs.CanDraw.{in_order}
use Rattle.pg_peekable.proofs.RowParts.{border-items, block-items}
use Rattle.pg_peekable.proofs.looked_up_table.LookedUpTable.push_spanned_column.Goals as goal

pub returns-in-None-clause-appends : goal.returns-in-None-clause-appends
returns-in-None-clause-appends g c =
    let t = g.T.TableMarker.table in
    let place = ap (λ (p : Position). crossing_at t.config t.rows t.columns p ++ border_items t.config p t.rows (t.width p.col) (get_horizontal t.config p t.rows)) c.new.ensures in
    Appends-text (ap (items_after c.args.run) (place ∙ border-items t (in_order t c.args.self.now.can) (at c.args.separator.now.row c.args.column) c.requires.begins.starts c.requires.begins.column (sym c.requires.begins.span ∙ c.in-None.is))) c.push_column.ensures.appends

pub returns-in-None-clause-color : goal.returns-in-None-clause-color
returns-in-None-clause-color g c =
    let t = g.T.TableMarker.table in
    let place = ap (λ (p : Position). crossing_at t.config t.rows t.columns p ++ border_items t.config p t.rows (t.width p.col) (get_horizontal t.config p t.rows)) c.new.ensures in
    IfOk-same (ap (last_color c.args.run) (place ∙ border-items t (in_order t c.args.self.now.can) (at c.args.separator.now.row c.args.column) c.requires.begins.starts c.requires.begins.column (sym c.requires.begins.span ∙ c.in-None.is))) c.push_column.result c.push_column.ensures.color

pub returns-in-Some-clause-appends : goal.returns-in-Some-clause-appends
returns-in-Some-clause-appends g c =
    let t = g.T.TableMarker.table in
    Appends-text (ap (items_after c.args.run) (block-items t (in_order t c.args.self.now.can) (at c.args.separator.now.row c.args.column) c.requires.begins.starts c.requires.begins.column c.in-Some.span (sym c.requires.begins.span ∙ c.in-Some.is))) c.push_block.ensures.appends

pub returns-in-Some-clause-color : goal.returns-in-Some-clause-color
returns-in-Some-clause-color g c =
    let t = g.T.TableMarker.table in
    IfOk-same (ap (last_color c.args.run) (block-items t (in_order t c.args.self.now.can) (at c.args.separator.now.row c.args.column) c.requires.begins.starts c.requires.begins.column c.in-Some.span (sym c.requires.begins.span ∙ c.in-Some.is))) c.push_block.result c.push_block.ensures.color
