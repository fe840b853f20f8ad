use Rattle.std.proofs.Common.{◌≡◌, map, refl, arith, length}
use Rattle.std.specs.Vec.Iter.{into_iter_len}
use Rattle.std.proofs.lemmas.Iterator.Adapters.{YieldsList-from_vec}
use Rattle.pg_layout.proofs.Given.{given-items}
use Rattle.pg_stream.proofs.stream.StreamedRows.{rows-ok}
use Rattle.pg_stream.proofs.stream.row_stream.RowStream.print_vec.Goals as goal

pub returns-clause-prints : goal.returns-clause-prints
returns-clause-prints g c =
    let len : into_iter_len c.into_iter.result ≡ length c.args.rows.items = omega (arith, c.into_iter.ensures.len, c.args.rows.ok) in
    c.print_all.ensures.prints (map (λ row. map g.S.AsStr.text row.items) c.args.rows.items)
    (given-items _ (λ row. map g.S.AsStr.text row.items) (λ x y. map g.S.AsStr.text x.items ≡ y) (λ x. refl) (YieldsList-from_vec c.args.rows.items c.into_iter.ensures.rest len))

pub returns-clause-appends : goal.returns-clause-appends
returns-clause-appends g c = rows-ok c.print_all.result (returns-clause-prints g c)
