use Rattle.pg_table.proofs.table.Table.merge_column.Goals as goal

pub returns-clause-nothing : goal.returns-clause-nothing
returns-clause-nothing g c = λ none. c.merge_runs.ensures.nothing (rw (← c.self.view_is) at none)
