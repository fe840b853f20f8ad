use Rattle.std.proofs.Common.{sym}
use Rattle.pg_picture.specs.Pieces.{written}
use Rattle.pg_picture.specs.Table.{row_part, line_of_row}
use Rattle.pg_picture.proofs.Appending.{Appends-text, ◌then◌, stopped}
use Rattle.pg_peekable.proofs.RowParts.{written-columns}
use Rattle.pg_peekable.proofs.looked_up_table.LookedUpTable.push_line_of_row.Goals as goal

pub returns-in_err-push_parts : goal.returns-in_err-push_parts
unfolding line_of_row
returns-in_err-push_parts g c =
    let t = g.T.TableMarker.table in
    Appends-text (sym (written-columns (row_part t c.args.line.now.row c.args.line.now.number) t.columns))
    (stopped (written (row_part t c.args.line.now.row c.args.line.now.number t.columns)) c.from_residual.ensures.0 c.in_err-push_parts.ensures)

pub returns : goal.returns
unfolding line_of_row
returns g c =
    let t = g.T.TableMarker.table in
    let part = row_part t c.args.line.now.row c.args.line.now.number in
    Appends-text (sym (written-columns part t.columns))
    (c.in_ok-push_parts.ensures then c.push_end.ensures)
