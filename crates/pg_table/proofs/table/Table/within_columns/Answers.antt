use Rattle.pg_table.proofs.table.Table.within_columns.Goals as goal

pub returns-clause-table : goal.returns-clause-table
returns-clause-table g c = rw (c.natural.ensures.records, c.natural.ensures.config, c.natural.ensures.colors) at c.within_columns.ensures.table

pub returns-clause-bound : goal.returns-clause-bound
returns-clause-bound g c = rw (c.natural.ensures.records, c.natural.ensures.config) at c.within_columns.ensures.bound

pub returns-clause-fault : goal.returns-clause-fault
returns-clause-fault g c = rw (c.natural.ensures.records, c.natural.ensures.config) at c.within_columns.ensures.fault

pub returns-clause-memory : goal.returns-clause-memory
returns-clause-memory g c = rw (c.natural.ensures.records, c.natural.ensures.config) at c.within_columns.ensures.memory

pub returns-clause-empty : goal.returns-clause-empty
returns-clause-empty g c = rw c.natural.ensures.records at c.within_columns.ensures.empty
