use Rattle.pg_table.proofs.table.Table.sizes_fault.Goals as goal

pub returns : goal.returns
returns g c = rw (c.natural.ensures.records, c.natural.ensures.config) at c.sizes_fault.ensures
