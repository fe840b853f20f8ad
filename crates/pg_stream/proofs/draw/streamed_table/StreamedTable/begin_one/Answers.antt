use Rattle.std.proofs.Common.{◌∙◌, sym, ap, arith, set, Some}
use Rattle.pg_config.specs.Spans.{rect_columns}
use Rattle.pg_layout.specs.declared.position.Position.{Position}
use Rattle.pg_picture.specs.Table.{Table}
use Rattle.pg_stream.specs.Inside.{new_cell}
use Rattle.pg_stream.proofs.draw.Beginning.{begins, keeps}
use Rattle.pg_stream.proofs.draw.streamed_table.StreamedTable.begin_one.Goals as goal

pub begin_cell-requires-clause-may : goal.begin_cell-requires-clause-may
begin_cell-requires-clause-may g c = rw c.new-pos.ensures (c.requires.may (sym c.requires.own ∙ sym c.is_free.ensures ∙ c.if-is_free.true))

-- the rectangle ends inside the columns
pub overflow_add-column : goal.overflow_add-column
overflow_add-column g c =
    let told = g.T.TableMarker.table in
    let may = c.requires.may (sym c.requires.own ∙ sym c.is_free.ensures ∙ c.if-is_free.true) in
    let wide = c.rect_size-rows.ensures.columns ∙ ap (λ (p : Position). rect_columns told.config.spans p) c.new-pos.ensures in
    let columns = ap (λ (t : Table). t.columns) c.args.self.pen.is in
    omega (arith, may.inside, wide, columns)

pub returns-then-is_free-clause-begun : goal.returns-then-is_free-clause-begun
returns-then-is_free-clause-begun g c =
    let t = g.T.TableMarker.table in
    let text = g.S.AsStr.text c.args.value in
    c.put.ensures ∙ ap (λ x. set c.args.opened.now c.args.column (Some x)) (c.begin_cell.ensures ∙ ap (λ (p : Position). new_cell t p text) c.new-pos.ensures)
    ∙ begins t c.args.row c.args.column text c.args.opened.now (sym c.requires.own ∙ sym c.is_free.ensures ∙ c.if-is_free.true)

pub returns-clause-begun : goal.returns-clause-begun
returns-clause-begun g c = keeps g.T.TableMarker.table c.args.row c.args.column (g.S.AsStr.text c.args.value) c.args.opened.now (sym c.requires.own ∙ sym c.is_free.ensures ∙ c.if-is_free.false) c.requires.column
