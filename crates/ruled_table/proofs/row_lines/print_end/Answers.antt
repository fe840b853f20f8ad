use Rattle.std.specs.Prelude.{⊤}
use Rattle.ruled_table.proofs.RowsInParts.{end-stops}
use Rattle.ruled_table.proofs.row_lines.print_end.Goals as goal

pub returns-in_err-finish-clause-fault : goal.returns-in_err-finish-clause-fault
returns-in_err-finish-clause-fault c = λ heights counts alive may fault is.
    end-stops ⊤ c.in_err-finish.field-0.0 c.from_residual.result ((c.in_err-finish.ensures.ends heights counts alive).whole may).1 c.from_residual.ensures.1 fault is

pub returns-clause-lines : goal.returns-clause-lines
returns-clause-lines c = λ heights counts alive may. rw c.clear.ensures.bytes at ((c.in_ok-finish.ensures.ends heights counts alive).whole may).0.ok
