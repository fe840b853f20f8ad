use Rattle.pg_table.proofs.table.Table.with_caption.Goals as goal

pub returns-clause-ok : goal.returns-clause-ok
returns-clause-ok g c = rw c.count_rows-below.ensures at c.with_title.ensures.ok
