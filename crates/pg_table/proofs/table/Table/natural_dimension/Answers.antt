use Rattle.pg_table.proofs.table.Table.natural_dimension.Goals as goal

pub returns-clause-widths : goal.returns-clause-widths
returns-clause-widths g c = rw (c.natural.ensures.records, c.natural.ensures.config, c.natural.ensures.widths) at c.natural_dimension.ensures.widths
