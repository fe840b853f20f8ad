use Rattle.std.proofs.Common.{map}
use Rattle.std.specs.List.{range_with_len}
use Rattle.pg_picture.proofs.Appending.{Gained}
use Rattle.pg_picture.specs.Marks.{line}
use Rattle.pg_picture.specs.Table.{Known}
use Rattle.pg_picture.specs.Inside.{body_text}
use Rattle.pg_peekable.proofs.looked_up_table.LookedUpTable.push_lines.Given as goal

abbrev pub invariant-loop-number : goal.invariant-loop-number
invariant-loop-number g l =
    let t = g.T.TableMarker.table in
    Gained l.fn.buf l.buf (body_text Known t t.config.margin.top.size l.index (map (line l.row) (range_with_len 0 l.number)))
