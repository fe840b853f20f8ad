use Rattle.std.proofs.Common.{◌∷◌, sym, ap, subst}
use Rattle.pg_picture.proofs.Appending.{Appends-text}
use Rattle.pg_stream.specs.Conditions.{RowsFit}
use Rattle.pg_stream.specs.Printers.{printing}
use Rattle.pg_stream.specs.Printing.{rows_text}
use Rattle.pg_stream.proofs.printer.row_printer.RowPrinter.print_rows.Goals as goal

pub push_rows-requires-clause-given : goal.push_rows-requires-clause-given
push_rows-requires-clause-given g c =
    let (cells, texts, from, fit) = c.requires.given in
    (cells, texts, from, subst (λ p. RowsFit (printing g.D.Dimension.width g.D.Dimension.height g.C.Colors.color p) (cells ∷ texts)) (sym c.into_parts-progress.ensures.is) fit)

pub returns : goal.returns
returns g c = λ cells texts from.
    Appends-text (ap (λ p. rows_text (printing g.D.Dimension.width g.D.Dimension.height g.C.Colors.color p) (cells ∷ texts)) c.into_parts-progress.ensures.is) (c.push_rows.ensures cells texts from)
