use Rattle.pg_picture.proofs.Appending.{Appends-text, ◌then◌, stopped}
use Rattle.pg_picture.proofs.PiecesOfLines.{written-margin_start, written-margin_end}
use Rattle.pg_picture.proofs.margin.push_margin_line.Goals as goal

pub returns-in_err-push_repeated-in-Start : goal.returns-in_err-push_repeated-in-Start
returns-in_err-push_repeated-in-Start g c = Appends-text (written-margin_start c.args.indent _ c.args.width c.in-Start.is c.min-blank.ensures) (stopped _ c.from_residual.ensures.0 c.in_err-push_repeated-in-Start.ensures)

pub returns-in_err-push_fill-in-End : goal.returns-in_err-push_fill-in-End
returns-in_err-push_fill-in-End g c = Appends-text (written-margin_end c.args.indent _ c.args.width c.in-End.is c.min-blank-in-End.ensures) (stopped _ c.from_residual-in_err-push_fill-in-End.ensures.0 c.in_err-push_fill-in-End.ensures)

pub returns-in_ok-push_repeated-in-Start : goal.returns-in_ok-push_repeated-in-Start
returns-in_ok-push_repeated-in-Start g c = Appends-text (written-margin_start c.args.indent _ c.args.width c.in-Start.is c.min-blank.ensures) (c.in_ok-push_repeated-in-Start.ensures then c.push_fill.ensures)

pub returns-in_ok-push_fill-in-End : goal.returns-in_ok-push_fill-in-End
returns-in_ok-push_fill-in-End g c = Appends-text (written-margin_end c.args.indent _ c.args.width c.in-End.is c.min-blank-in-End.ensures) (c.in_ok-push_fill-in-End.ensures then c.push_repeated-in-End.ensures)
