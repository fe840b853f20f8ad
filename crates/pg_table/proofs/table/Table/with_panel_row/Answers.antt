use Rattle.std.proofs.Common.{◌≡◌, ◌++◌, ◌∷◌, [], length, IfOk, subst, ap, ◌∙◌}
use Rattle.pg_table.specs.OwnRows.{padded_to}
use Rattle.pg_table.specs.Panels.{panelled}
use Rattle.pg_table.specs.Printing.{Parts}
use Rattle.pg_table.proofs.table.Table.with_panel_row.Goals as goal

pub returns-in-Ok-clause-ok : goal.returns-in-Ok-clause-ok
returns-in-Ok-clause-ok g c =
    let row = c.in_ok-pad_row.ensures ∙ ap (λ items. padded_to c.count_panel_cells.result c.args.text items) c.new-row.ensures.items ∙ ap (λ n. padded_to n c.args.text []) c.count_panel_cells.ensures in
    let pushed = c.in-Ok.ensures.ok ∙ ap (λ items. record c.args.self { rows = c.args.self.rows ++ items ∷ [] }) row in
    subst (λ (t : Parts g.row.T.Denot). IfOk c.with_panel.result (λ table. table ≡ panelled (length c.args.self.rows) t)) pushed
    (subst (λ r. IfOk c.with_panel.result (λ table. table ≡ panelled r c.push_row.new.self)) c.count_rows-rows.ensures c.with_panel.ensures.ok)
