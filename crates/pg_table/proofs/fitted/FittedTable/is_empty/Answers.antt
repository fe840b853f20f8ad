use Rattle.pg_table.proofs.fitted.FittedTable.is_empty.Goals as goal

pub returns : goal.returns
returns g c = rw c.natural.ensures.records at c.is_empty.ensures
