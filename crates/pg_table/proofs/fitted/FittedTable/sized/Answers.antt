use Rattle.pg_table.proofs.fitted.FittedTable.sized.Goals as goal

pub sized-requires : goal.sized-requires
sized-requires g c = rw c.natural.ensures.records c.requires

pub returns-clause-widths : goal.returns-clause-widths
returns-clause-widths g c = rw (c.natural.ensures.records, c.natural.ensures.config, c.natural.ensures.widths) at c.sized.ensures.widths

pub returns-clause-heights : goal.returns-clause-heights
returns-clause-heights g c = rw (c.natural.ensures.records, c.natural.ensures.config) at c.sized.ensures.heights

pub returns-clause-ok : goal.returns-clause-ok
returns-clause-ok g c = rw (c.natural.ensures.records, c.natural.ensures.config, c.natural.ensures.colors, c.natural.ensures.widths) at c.sized.ensures.ok

pub returns-clause-fault : goal.returns-clause-fault
returns-clause-fault g c = rw (c.natural.ensures.records, c.natural.ensures.config, c.natural.ensures.colors, c.natural.ensures.widths) at c.sized.ensures.fault
