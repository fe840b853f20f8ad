use Rattle.std.proofs.Common.{sym, ap, ◌∙◌, subst}
use Rattle.pg_picture.proofs.Appending.{refused-as, appended-as, Appends-text}
use Rattle.pg_stream.specs.Conditions.{RowFits}
use Rattle.pg_stream.specs.Printers.{printing}
use Rattle.pg_stream.specs.Printing.{Printing, row_text, after_row}
use Rattle.pg_stream.proofs.printer.row_printer.RowPrinter.row.Goals as goal

pub push_row-requires-clause-fits : goal.push_row-requires-clause-fits
push_row-requires-clause-fits g c =
    (c.requires.fits.0, c.requires.fits.1, subst (λ p. RowFits (printing g.D.Dimension.width g.D.Dimension.height g.C.Colors.color p) c.requires.fits.0 c.args.is_last) (sym c.self.view_is) c.requires.fits.2, λ x here plain. cc)

pub returns-in_err-push_row-clause-appends : goal.returns-in_err-push_row-clause-appends
returns-in_err-push_row-clause-appends g c = λ texts gives.
    Appends-text (ap (λ p. row_text (printing g.D.Dimension.width g.D.Dimension.height g.C.Colors.color p) texts c.args.is_last) c.self.view_is) (refused-as c.from_residual.ensures.0 (c.in_err-push_row.ensures.appends texts gives))

pub returns-clause-appends : goal.returns-clause-appends
returns-clause-appends g c = λ texts gives.
    Appends-text (ap (λ p. row_text (printing g.D.Dimension.width g.D.Dimension.height g.C.Colors.color p) texts c.args.is_last) c.self.view_is) (appended-as (c.in_ok-push_row.ensures.appends texts gives))

pub returns-clause-after : goal.returns-clause-after
returns-clause-after g c = λ texts gives.
    c.in_ok-push_row.ensures.after texts gives ∙ ap (λ p. after_row (printing g.D.Dimension.width g.D.Dimension.height g.C.Colors.color p) texts c.args.is_last) c.self.view_is

pub returns-clause-ended : goal.returns-clause-ended
unfolding after_row
returns-clause-ended g c = ap (λ (q : Printing). q.is_ended) (c.in_ok-push_row.ensures.after c.requires.fits.0 c.requires.fits.1)
