use Rattle.pg_table.proofs.table.Table.print.Goals as goal

pub returns-clause-prints : goal.returns-clause-prints
returns-clause-prints g c = rw (c.natural.ensures.records, c.natural.ensures.config, c.natural.ensures.colors, c.natural.ensures.widths) at c.print.ensures.prints

pub returns-clause-straight : goal.returns-clause-straight
returns-clause-straight g c = rw (c.natural.ensures.records, c.natural.ensures.config, c.natural.ensures.colors, c.natural.ensures.widths) at c.print.ensures.straight

pub returns-clause-even : goal.returns-clause-even
returns-clause-even g c = rw (c.natural.ensures.records, c.natural.ensures.config, c.natural.ensures.colors, c.natural.ensures.widths) at c.print.ensures.even

pub returns-clause-printed : goal.returns-clause-printed
returns-clause-printed g c = rw (c.natural.ensures.records, c.natural.ensures.config, c.natural.ensures.colors, c.natural.ensures.widths) at c.print.ensures.printed
