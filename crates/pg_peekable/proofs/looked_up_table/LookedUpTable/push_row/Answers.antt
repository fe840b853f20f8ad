use Rattle.std.proofs.Common.{◌+◌, length, refl}
use Rattle.pg_picture.specs.Inside.{body_text}
use Rattle.pg_picture.specs.Table.{Known, table_body}
use Rattle.pg_picture.proofs.Appending.{Appends-text, ◌then◌, stopped}
use Rattle.pg_picture.proofs.Pictures.{IfOk-at, lines_of, separator_of, separator-room, lines-room, row-end, row-text}
use Rattle.pg_peekable.proofs.looked_up_table.LookedUpTable.push_row.Goals as goal

pub push_above-requires : goal.push_above-requires
push_above-requires g c =
    let t = g.T.TableMarker.table in
    let n = t.config.margin.top.size in
    record { room = separator-room t n c.args.index c.args.row (length (table_body t)) c.requires.row.row c.requires.row.room }

pub returns-in_err-next-clause-lines : goal.returns-in_err-next-clause-lines
returns-in_err-next-clause-lines g c =
    let t = g.T.TableMarker.table in
    let n = t.config.margin.top.size in
    let next = c.args.index + length (separator_of t n c.args.row) in
    Appends-text (row-text t n c.args.index next c.args.row refl c.requires.row.row)
    (stopped (body_text Known t n next (lines_of t n c.args.row (t.height c.args.row))) c.from_residual.ensures.0 c.in_err-next.ensures.lines)

pub push_lines-requires : goal.push_lines-requires
push_lines-requires g c =
    let t = g.T.TableMarker.table in
    let n = t.config.margin.top.size in
    record { room = record { row = c.requires.row.row; room = lines-room t n c.args.index _ c.args.row (length (table_body t)) c.in_ok-next.ensures.index c.requires.row.row c.requires.row.room } }

pub returns-clause-lines : goal.returns-clause-lines
returns-clause-lines g c =
    let t = g.T.TableMarker.table in
    let n = t.config.margin.top.size in
    Appends-text (row-text t n c.args.index _ c.args.row c.in_ok-next.ensures.index c.requires.row.row) (c.in_ok-next.ensures.lines then c.push_lines.ensures.lines)

pub returns-clause-index : goal.returns-clause-index
returns-clause-index g c =
    let t = g.T.TableMarker.table in
    let n = t.config.margin.top.size in
    IfOk-at c.push_lines.result (row-end t n c.args.index _ c.args.row c.in_ok-next.ensures.index c.requires.row.row) c.push_lines.ensures.index
