use Rattle.std.proofs.Common.{map}
use Rattle.pg_layout.specs.ColorsMap.{color_at}
use Rattle.pg_layout.specs.Records.{columns_of}
use Rattle.pg_table.specs.Printing.{printed_table}
use Rattle.pg_table.proofs.StraightTables.{even, even-text}
use Rattle.pg_table.proofs.table.Table.to_string.Goals as goal

pub returns-clause-ok : goal.returns-clause-ok
returns-clause-ok g c = rw (c.natural.ensures.records, c.natural.ensures.config, c.natural.ensures.colors, c.natural.ensures.widths) at c.to_string.ensures.ok

pub returns-clause-fault : goal.returns-clause-fault
returns-clause-fault g c = rw (c.natural.ensures.records, c.natural.ensures.config, c.natural.ensures.colors, c.natural.ensures.widths) at c.to_string.ensures.fault

pub returns-clause-even : goal.returns-clause-even
returns-clause-even g c = λ look.
    let self = c.args.self.now in
    let text = rw (c.natural.ensures.records, c.natural.ensures.config, c.natural.ensures.colors, c.natural.ensures.widths) at c.to_string.ensures.text in
    even-text c.to_string.result (printed_table g.T.AsStr.text self) text
    (λ ok. even self.config (map (λ row. map g.T.AsStr.text row) self.rows) (columns_of self.rows) (λ place. color_at place self.colors) (returns-clause-ok g c ok) look)

pub returns-clause-text : goal.returns-clause-text
returns-clause-text g c = rw (c.natural.ensures.records, c.natural.ensures.config, c.natural.ensures.colors, c.natural.ensures.widths) at c.to_string.ensures.text
