use Rattle.std.proofs.Common.{◌≡◌, length}
use Rattle.pg_picture.proofs.Appending.{Gained}
use Rattle.pg_picture.specs.Marks.{marks_above}
use Rattle.pg_picture.specs.Table.{Known}
use Rattle.pg_picture.specs.Inside.{body_text}
use Rattle.pg_peekable.proofs.looked_up_table.LookedUpTable.push_body.Given as goal

abbrev pub invariant-loop-row : goal.invariant-loop-row
invariant-loop-row g l =
    let t = g.T.TableMarker.table in
    record {
      gained : Gained l.fn.buf l.buf (body_text Known t t.config.margin.top.size 0 (marks_above t.config t.height l.row));
      index : l.index ≡ length (marks_above t.config t.height l.row);
    }
