use Rattle.pg_table.proofs.table.Table.least_width.Goals as goal

pub returns-clause-width : goal.returns-clause-width
returns-clause-width g c = rw (c.natural.ensures.records, c.natural.ensures.config) at c.least_width.ensures.width

pub returns-clause-ok : goal.returns-clause-ok
returns-clause-ok g c = rw (c.natural.ensures.records, c.natural.ensures.config) at c.least_width.ensures.ok

pub returns-clause-fault : goal.returns-clause-fault
returns-clause-fault g c = rw (c.natural.ensures.records, c.natural.ensures.config) at c.least_width.ensures.fault

pub returns-clause-spans : goal.returns-clause-spans
returns-clause-spans g c = rw (c.natural.ensures.records, c.natural.ensures.config) at c.least_width.ensures.spans
