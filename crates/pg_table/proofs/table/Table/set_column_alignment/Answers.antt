use Rattle.pg_table.proofs.StraightTables.{told-alignment, told-or-same}
use Rattle.pg_table.proofs.table.Table.set_column_alignment.Goals as goal

pub returns-clause-narrow : goal.returns-clause-narrow
returns-clause-narrow g c = λ look.
    let was = rw (← c.self.view_is) at look in
    told-or-same c.set_alignment_horizontal.result c.set_alignment_horizontal.new.self _ c.self.inside.config c.set_alignment_horizontal.ensures.ok c.set_alignment_horizontal.ensures.err (told-alignment c.self.inside.config was _) was
