use Rattle.std.proofs.Common.{ℕ, ap, ◌∙◌}
use Rattle.pg_picture.specs.Table.{Table}
use Rattle.pg_peekable.proofs.looked_up_table.LookedUpTable.pen.Goals as goal

-- its table is that of the sheet, whose columns are the table's
pub invariant_of-result-clause-is : goal.invariant_of-result-clause-is
invariant_of-result-clause-is g c =
    let t = g.T.TableMarker.table in
    let self = c.args.self.now in
    ap (λ (u : Table). record u { rows = t.rows; columns = self.sheet.columns; text = t.text }) self.is ∙ ap (λ (n : ℕ). record t { columns = n }) self.shape.columns
