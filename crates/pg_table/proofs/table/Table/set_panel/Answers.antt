use Rattle.pg_table.proofs.StraightTables.{told-or-same, told-spans}
use Rattle.pg_table.proofs.table.Table.set_panel.Goals as goal

pub returns-clause-narrow : goal.returns-clause-narrow
returns-clause-narrow g c = λ look.
    let was = rw (← c.self.view_is) at look in
    told-or-same c.set_column_span.result c.set_column_span.new.self _ c.self.inside.config c.set_column_span.ensures.ok c.set_column_span.ensures.err (told-spans c.self.inside.config was _) was
