use Rattle.pg_table.proofs.StraightTables.{told-spans}
use Rattle.pg_table.proofs.table.Table.with_row_span.Goals as goal

pub returns-in-Ok-clause-narrow : goal.returns-in-Ok-clause-narrow
returns-in-Ok-clause-narrow g c = λ look.
    let was = rw (← c.self.view_is) at look in
    rw c.in-Ok.ensures.ok (told-spans c.self.inside.config was _)
