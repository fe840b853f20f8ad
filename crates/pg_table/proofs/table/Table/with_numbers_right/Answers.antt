use Rattle.pg_table.proofs.StraightTables.{told-alignment}
use Rattle.pg_table.proofs.table.Table.with_numbers_right.Goals as goal

pub returns-in-Err-clause-nothing : goal.returns-in-Err-clause-nothing
returns-in-Err-clause-nothing g c = λ none. c.in-Err.ensures.nothing (rw (← c.self.view_is) at none)

pub returns-in-Ok-clause-narrow : goal.returns-in-Ok-clause-narrow
returns-in-Ok-clause-narrow g c = λ look.
    let was = rw (← c.self.view_is) at look in
    rw c.in-Ok.ensures.ok (told-alignment c.self.inside.config was _)
