use Rattle.pg_table.proofs.fitted.FittedTable.fits.Goals as goal

pub returns-clause-ok : goal.returns-clause-ok
returns-clause-ok g c = rw (c.natural.ensures.records, c.natural.ensures.config, c.natural.ensures.colors, c.natural.ensures.widths) at c.fits.ensures.ok

pub returns-clause-fault : goal.returns-clause-fault
returns-clause-fault g c = rw (c.natural.ensures.records, c.natural.ensures.config, c.natural.ensures.colors, c.natural.ensures.widths) at c.fits.ensures.fault

pub returns-clause-empty : goal.returns-clause-empty
returns-clause-empty g c = rw c.natural.ensures.records at c.fits.ensures.empty
