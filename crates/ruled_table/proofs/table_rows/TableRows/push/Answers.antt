use Rattle.ruled_table.specs.RowLines.{HasNoRoom}
use Rattle.csv.specs.Records.{fields_of}
use Rattle.ruled_table.proofs.RowsInParts.{room-on}
use Rattle.ruled_table.proofs.table_rows.TableRows.push.Goals as goal

pub returns-clause-lines : goal.returns-clause-lines
returns-clause-lines c = λ options plan rows appended.
    c.in_ok-push_row.ensures.lines options plan rows (record { asked = appended.asked; laid = appended.laid; drawn = appended.drawn })

pub returns-clause-after : goal.returns-clause-after
returns-clause-after c = λ options plan rows appended.
    let after = c.in_ok-push_row.ensures.after options plan rows (record { asked = appended.asked; laid = appended.laid; drawn = appended.drawn }) in
    record { asked = after.asked; laid = after.laid; drawn = after.drawn }

pub returns-in_err-push_row-clause-room : goal.returns-in_err-push_row-clause-room
returns-in_err-push_row-clause-room c = λ options plan rows appended.
    let row = fields_of c.args.fields.now in
    room-on (HasNoRoom options plan rows row) (HasNoRoom options plan rows row) c.in_err-push_row.field-0.0 c.from_residual.result (λ out. out)
    (c.in_err-push_row.ensures.room options plan rows (record { asked = appended.asked; laid = appended.laid; drawn = appended.drawn })) c.from_residual.ensures.1
