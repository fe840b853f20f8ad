use Rattle.pg_table.proofs.fitted.FittedTable.natural_dimension.Goals as goal

pub returns-clause-fault : goal.returns-clause-fault
returns-clause-fault g c = rw (c.natural.ensures.records, c.natural.ensures.config) at c.natural_dimension.ensures.fault

pub returns-clause-memory : goal.returns-clause-memory
returns-clause-memory g c = rw (c.natural.ensures.records, c.natural.ensures.config) at c.natural_dimension.ensures.memory

pub returns-clause-widths : goal.returns-clause-widths
returns-clause-widths g c = rw (c.natural.ensures.records, c.natural.ensures.config, c.natural.ensures.widths) at c.natural_dimension.ensures.widths

pub returns-clause-heights : goal.returns-clause-heights
returns-clause-heights g c = rw (c.natural.ensures.records, c.natural.ensures.config) at c.natural_dimension.ensures.heights
