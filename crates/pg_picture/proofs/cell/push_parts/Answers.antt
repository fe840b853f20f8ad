use Rattle.pg_picture.proofs.Appending.{◌then◌, stopped}
use Rattle.pg_picture.proofs.cell.push_parts.Goals as goal

pub returns-in_err-push_words : goal.returns-in_err-push_words
returns-in_err-push_words g c = c.in_ok-push_left_side.ensures then (stopped _ c.from_residual-in_err-push_words.ensures.0 c.in_err-push_words.ensures)
