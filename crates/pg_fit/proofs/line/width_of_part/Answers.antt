use Rattle.pg_fit.proofs.LawsOfControls.{part-width}
use Rattle.pg_fit.proofs.line.width_of_part.Goals as goal

pub returns-then-printable : goal.returns-then-printable
returns-then-printable c = part-width c.args.text.now c.args.part.begin c.args.part.end c.requires.order c.requires.end.0 (c.requires.printable c.if-printable.true)
