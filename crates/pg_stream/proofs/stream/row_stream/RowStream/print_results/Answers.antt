use Rattle.std.proofs.Common.{map}
use Rattle.pg_stream.proofs.stream.StreamedRows.{none-held}
use Rattle.pg_stream.proofs.stream.row_stream.RowStream.print_results.Goals as goal

pub returns-clause-prints : goal.returns-clause-prints
returns-clause-prints g c = rw (← c.self.view_is) c.push_results.ensures.prints

pub returns-clause-runs : goal.returns-clause-runs
returns-clause-runs g c = rw (← c.self.view_is) c.push_results.ensures.runs

pub returns-clause-empty : goal.returns-clause-empty
returns-clause-empty g c = rw (← c.self.view_is) (λ none given. c.push_results.ensures.empty (none-held (λ row. map g.S.AsStr.text row.items) c.self.inside.rows.held none) given)
