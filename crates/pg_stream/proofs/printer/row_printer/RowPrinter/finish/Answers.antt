use Rattle.std.proofs.Common.{◌≡◌, ◌⊎◌, true, sym, ap, subst}
use Rattle.pg_picture.proofs.Appending.{Appends-text}
use Rattle.pg_stream.specs.Printers.{printing}
use Rattle.pg_stream.specs.Printing.{finish_text}
use Rattle.pg_stream.proofs.printer.row_printer.RowPrinter.finish.Goals as goal

pub push_end-requires-clause-ended : goal.push_end-requires-clause-ended
push_end-requires-clause-ended g c = subst (λ p. ((printing g.D.Dimension.width g.D.Dimension.height g.C.Colors.color p).rows ≡ 0) ⊎ ((printing g.D.Dimension.width g.D.Dimension.height g.C.Colors.color p).is_ended ≡ true)) (sym c.self.view_is) c.requires

pub returns-clause-appends : goal.returns-clause-appends
returns-clause-appends g c = Appends-text (ap (λ p. finish_text (printing g.D.Dimension.width g.D.Dimension.height g.C.Colors.color p)) c.self.view_is) c.push_end.ensures.appends

pub returns-clause-empty : goal.returns-clause-empty
returns-clause-empty g c = rw (← c.self.view_is) c.push_end.ensures.empty
