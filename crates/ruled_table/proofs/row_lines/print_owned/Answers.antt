use Rattle.std.proofs.Common.{List, map, false}
use Rattle.std.specs.Prelude.{⊤}
use Rattle.pg_layout.specs.Text.{Text}
use Rattle.pg_stream.specs.Conditions.{RowFits}
use Rattle.pg_stream.specs.Printing.{Printing}
use Rattle.ruled_table.specs.RowLines.{held_text, state_of}
use Rattle.ruled_table.proofs.RowsInParts.{row-stops}
use Rattle.ruled_table.proofs.row_lines.print_owned.Goals as goal

pub returns-in_err-push-clause-room : goal.returns-in_err-push-clause-room
returns-in_err-push-clause-room c = λ heights high alive.
    let s : Printing = (state_of heights c.args.sheet.now).printed in
    let cells : List Text = map held_text c.args.cells.items in
    row-stops ⊤ (RowFits s cells false) s.rows c.in_err-push.field-0.0 c.from_residual.result (c.in_err-push.ensures.prints heights high alive).tells c.from_residual.ensures.1
