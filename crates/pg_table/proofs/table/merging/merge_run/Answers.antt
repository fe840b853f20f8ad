use Rattle.pg_table.proofs.StraightTables.{told-or-same, told-spans}
use Rattle.pg_table.proofs.table.merging.merge_run.Goals as goal

pub returns-clause-narrow : goal.returns-clause-narrow
returns-clause-narrow g c = λ look.
    told-or-same c.set_row_span.result c.set_row_span.new.self _ c.args.config.now c.set_row_span.ensures.ok c.set_row_span.ensures.err (told-spans c.args.config.now look _) look
