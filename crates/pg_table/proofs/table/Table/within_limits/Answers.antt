use Rattle.pg_table.proofs.table.Table.within_limits.Goals as goal

pub returns-clause-table : goal.returns-clause-table
returns-clause-table g c = rw (c.natural.ensures.records, c.natural.ensures.config, c.natural.ensures.colors) at c.within_limits.ensures.table

pub returns-clause-bound : goal.returns-clause-bound
returns-clause-bound g c = rw (c.natural.ensures.records, c.natural.ensures.config) at c.within_limits.ensures.bound

pub returns-clause-fault : goal.returns-clause-fault
returns-clause-fault g c = rw (c.natural.ensures.records, c.natural.ensures.config) at c.within_limits.ensures.fault

pub returns-clause-memory : goal.returns-clause-memory
returns-clause-memory g c = rw (c.natural.ensures.records, c.natural.ensures.config) at c.within_limits.ensures.memory

pub returns-clause-limits : goal.returns-clause-limits
returns-clause-limits g c = rw (c.natural.ensures.records, c.natural.ensures.config) at c.within_limits.ensures.limits

pub returns-clause-narrow : goal.returns-clause-narrow
returns-clause-narrow g c = rw (c.natural.ensures.records, c.natural.ensures.config) at c.within_limits.ensures.narrow

pub returns-clause-empty : goal.returns-clause-empty
returns-clause-empty g c = rw c.natural.ensures.records at c.within_limits.ensures.empty
