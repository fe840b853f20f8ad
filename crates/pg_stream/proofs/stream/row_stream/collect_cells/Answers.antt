use Rattle.std.proofs.Common.{refl}
use Rattle.pg_stream.proofs.stream.StreamedRows.{collected-next, collected-all}
use Rattle.pg_stream.proofs.stream.row_stream.collect_cells.Goals as goal

pub loop-cell-init : goal.loop-cell-init
loop-cell-init g c =
    let may = c.requires.may c.into_iter-cell-iterator.result c.into_iter-cell-iterator.ensures.into_iter_gives in (
      may.0,
      may.1,
      λ texts gives. record { others = texts; left = gives c.into_iter-cell-iterator.result c.into_iter-cell-iterator.ensures.into_iter_gives; is = rw c.new-cells.ensures.items refl },
    )

pub loop-cell-preserved : goal.loop-cell-preserved
loop-cell-preserved g c =
    let goes = c.in-Some.ensures.goes.on c.loop-cell.invariant.1 in (
      goes.0,
      goes.1,
      λ texts gives. rw c.in_ok-push.ensures.items (collected-next g.S.AsStr.text g.R.IntoIter.Iterator.next_gives c.loop-cell.cells.items texts c.in-Some.cell (c.loop-cell.invariant.2 texts gives) c.in-Some.ensures.steps),
    )

pub returns : goal.returns
returns g c = λ texts gives. collected-all g.S.AsStr.text g.R.IntoIter.Iterator.next_gives c.loop-cell.cells.items texts (c.loop-cell.invariant.2 texts gives) c.in-None.ensures.steps
