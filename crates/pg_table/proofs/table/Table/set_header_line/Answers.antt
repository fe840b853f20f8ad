use Rattle.pg_table.proofs.StraightTables.{told-line, told-or-same}
use Rattle.pg_table.proofs.table.Table.set_header_line.Goals as goal

pub returns-clause-narrow : goal.returns-clause-narrow
returns-clause-narrow g c = λ look glyphs.
    let was = rw (← c.self.view_is) at look in
    told-or-same c.set_row_line.result c.set_row_line.new.self _ c.self.inside.config c.set_row_line.ensures.ok c.set_row_line.ensures.err (told-line c.self.inside.config was 1 c.args.line _ glyphs) was
