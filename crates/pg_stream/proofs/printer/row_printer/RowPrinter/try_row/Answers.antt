use Rattle.pg_picture.proofs.Appending.{Appends-beginning}
use Rattle.pg_stream.proofs.printer.row_printer.RowPrinter.try_row.Goals as goal

pub returns-in-Err-clause-memory : goal.returns-in-Err-clause-memory
returns-in-Err-clause-memory g c = λ is. (rw c.deref.ensures.value at (c.fits.ensures.0 c.if-not-fits.false), Appends-beginning c.in-Err.ensures.appends)

pub returns-in-Err-clause-refused : goal.returns-in-Err-clause-refused
returns-in-Err-clause-refused g c = λ misfit. absurd (misfit (rw c.deref.ensures.value at (c.fits.ensures.0 c.if-not-fits.false)))
