use Rattle.pg_stream.proofs.printer.row_printer.RowPrinter.close.Goals as goal

pub returns-clause-ends : goal.returns-clause-ends
returns-clause-ends g c = rw (← c.into_parts-progress.ensures.is) c.close.ensures.ends

pub returns-clause-empty : goal.returns-clause-empty
returns-clause-empty g c = rw (← c.into_parts-progress.ensures.is) c.close.ensures.empty
