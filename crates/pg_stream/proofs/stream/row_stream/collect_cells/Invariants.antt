use Rattle.std.proofs.Common.{◌≡◌, List}
use Rattle.pg_layout.specs.Records.{AlwaysGives, Becomes}
use Rattle.pg_layout.specs.Text.{Text}
use Rattle.pg_stream.proofs.stream.StreamedRows.{Collected}
use Rattle.pg_stream.proofs.stream.row_stream.collect_cells.Given as goal

-- the cells that were taken, and those that are left
abbrev pub invariant-loop-cell : goal.invariant-loop-cell
invariant-loop-cell g l =
    (goal.iterator-loop-cell g).can_next l.cell-iterator ×
    (goal.iterator-loop-cell g).is_finite l.cell-iterator ×
    ((texts : List Text) → Becomes g.R.IntoIterator.into_iter_gives (AlwaysGives (λ x y. g.S.AsStr.text x ≡ y) g.R.IntoIter.Iterator.next_gives) l.fn.row texts
    → Collected g.S.AsStr.text g.R.IntoIter.Iterator.next_gives l.cells.items l.cell-iterator texts)
