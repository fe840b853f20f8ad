use Rattle.std.proofs.Common.{map}
use Rattle.pg_stream.proofs.stream.StreamedRows.{none-held, rows-ok}
use Rattle.pg_stream.proofs.stream.row_stream.RowStream.finish.Goals as goal

pub returns-clause-prints : goal.returns-clause-prints
returns-clause-prints g c = rw (← c.self.view_is) c.finish.ensures.prints

pub returns-clause-appends : goal.returns-clause-appends
returns-clause-appends g c = rows-ok c.finish.result (returns-clause-prints g c)

pub returns-clause-empty : goal.returns-clause-empty
returns-clause-empty g c = rw (← c.self.view_is) (λ none. c.finish.ensures.empty (none-held (λ row. map g.S.AsStr.text row.items) c.self.inside.rows.held none))
