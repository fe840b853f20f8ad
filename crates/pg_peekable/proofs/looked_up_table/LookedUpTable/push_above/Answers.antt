use Rattle.std.proofs.Common.{refl}
use Rattle.pg_picture.proofs.Appending.{Gained-none, Gained-all, Appends-text}
use Rattle.pg_picture.proofs.Pictures.{absent-text}
use Rattle.pg_peekable.proofs.looked_up_table.LookedUpTable.push_above.Goals as goal

pub returns-then-not-has_separator-clause-lines : goal.returns-then-not-has_separator-clause-lines
returns-then-not-has_separator-clause-lines g c =
    let t = g.T.TableMarker.table in
    let n = t.config.margin.top.size in
    Appends-text (absent-text t n c.args.index t.rows c.args.row c.has_separator.ensures refl c.if-not-has_separator.true) (Gained-all (Gained-none c.args.buf.now))
