use Rattle.std.proofs.Common.{◌≡◌, ◌+◌, ◌≤◌, Option, Some, IfSome, slice_index_or, option_map, None, sym, ap, ◌∙◌, subst, arith}
use Rattle.pg_config.specs.Spans.{rect_columns}
use Rattle.pg_layout.specs.declared.position.Position.{Position}
use Rattle.pg_layout.specs.Position.{at}
use Rattle.pg_picture.specs.Table.{Table}
use Rattle.pg_stream.specs.Placed.{Placed}
use Rattle.pg_stream.proofs.draw.streamed_table.StreamedTable.end_past.Goals as goal

-- the cell ends inside the columns
pub overflow_add-column : goal.overflow_add-column
overflow_add-column g c =
    let told = g.T.TableMarker.table in
    let here : slice_index_or c.args.opened.now c.args.column None ≡ Some c.in-Some.cell.now = sym c.open_at.ensures ∙ ap (λ o. option_map (λ x. x.now) o) c.in-Some.is in
    let inside = subst (λ (o : Option Placed). IfSome o (λ cell. c.args.column + rect_columns told.config.spans (at cell.begun c.args.column) ≤ told.columns)) here (c.requires c.args.column) in
    let columns = ap (λ (t : Table). t.columns) c.args.self.pen.is in
    let wide = c.rect_columns.ensures ∙ ap (λ (p : Position). rect_columns told.config.spans p) (c.new.ensures ∙ ap (λ r. at r c.args.column) c.begun.ensures) in
    omega (arith, inside, columns, wide)
