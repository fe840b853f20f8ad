use Rattle.std.proofs.Common.{List, map, false}
use Rattle.std.specs.Prelude.{⊤}
use Rattle.pg_layout.specs.Text.{Text}
use Rattle.pg_stream.specs.Conditions.{RowFits}
use Rattle.pg_stream.specs.LiveStreams.{LentFits}
use Rattle.pg_stream.specs.Printing.{Printing}
use Rattle.ruled_table.specs.RowLines.{state_of}
use Rattle.ruled_table.proofs.RowsInParts.{lent-stops}
use Rattle.ruled_table.proofs.row_lines.print_lent.Goals as goal

pub returns-in_err-push_lent-clause-room : goal.returns-in_err-push_lent-clause-room
returns-in_err-push_lent-clause-room g c = λ heights high alive plain.
    let s : Printing = (state_of heights c.args.sheet.now).printed in
    let cells : List Text = map g.X.AsStr.text c.args.cells.now in
    lent-stops ⊤ (RowFits s cells false) (LentFits s cells) s.rows c.in_err-push_lent.field-0.0 c.from_residual.result (λ fits. (fits, plain, high.next)) (c.in_err-push_lent.ensures.prints heights high alive).tells c.from_residual.ensures.1
