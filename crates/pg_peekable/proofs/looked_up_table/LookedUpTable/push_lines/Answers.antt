use Rattle.std.proofs.Common.{◌<◌, sym, arith}
use Rattle.pg_picture.specs.Table.{Known}
use Rattle.pg_picture.proofs.Appending.{Gained-none, Gained-text, Gained-more, refused}
use Rattle.pg_picture.proofs.Pictures.{body_text-nil, row-more, row-cut}
use Rattle.pg_peekable.proofs.looked_up_table.LookedUpTable.push_lines.Goals as goal

pub loop-number-init : goal.loop-number-init
loop-number-init g c =
    let t = g.T.TableMarker.table in
    let n = t.config.margin.top.size in
    Gained-text (sym (body_text-nil Known t n c.args.index)) (Gained-none c.args.buf.now)

pub loop-number-preserved : goal.loop-number-preserved
loop-number-preserved g c =
    let t = g.T.TableMarker.table in
    let n = t.config.margin.top.size in
    Gained-text (row-more t n c.args.index c.args.row c.loop-number.number) (Gained-more c.loop-number.invariant c.in_ok-push_line.ensures)

pub returns-in_err-push_line-clause-lines : goal.returns-in_err-push_line-clause-lines
returns-in_err-push_line-clause-lines g c =
    let t = g.T.TableMarker.table in
    let n = t.config.margin.top.size in
    let here : c.loop-number.number < t.height c.args.row = omega (arith, c.height_of-height.ensures) in
    refused _ (row-cut t n c.args.index c.args.row c.loop-number.number (t.height c.args.row) here) c.from_residual.ensures.0 c.loop-number.invariant c.in_err-push_line.ensures
