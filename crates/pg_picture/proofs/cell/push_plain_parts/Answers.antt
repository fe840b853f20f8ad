use Rattle.pg_picture.specs.Inside.{style_of}
use Rattle.pg_picture.proofs.Appending.{Appends-text, ◌then◌, stopped}
use Rattle.pg_picture.proofs.PiecesOfLines.{plain-line}
use Rattle.pg_picture.proofs.cell.push_plain_parts.Goals as goal

pub returns-in_err-push_columns : goal.returns-in_err-push_columns
returns-in_err-push_columns g c =
    Appends-text (plain-line (style_of c.args.style.now) _ c.args.share c.args.rest c.args.line.now c.requires.plain)
    (stopped _ c.from_residual.ensures.0 c.in_err-push_columns.ensures)

pub returns-in_err-push_short_words : goal.returns-in_err-push_short_words
returns-in_err-push_short_words g c =
    Appends-text (plain-line (style_of c.args.style.now) _ c.args.share c.args.rest c.args.line.now c.requires.plain)
    (c.in_ok-push_columns.ensures then (stopped _ c.from_residual-in_err-push_short_words.ensures.0 c.in_err-push_short_words.ensures))

pub returns : goal.returns
returns g c =
    Appends-text (plain-line (style_of c.args.style.now) _ c.args.share c.args.rest c.args.line.now c.requires.plain)
    (c.in_ok-push_columns.ensures then (c.in_ok-push_short_words.ensures then c.push_columns-2.ensures))
