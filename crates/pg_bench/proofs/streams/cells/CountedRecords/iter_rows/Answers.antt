use Rattle.std.proofs.Common.{◌≡◌}
use Rattle.pg_bench.specs.declared.streams.cells.CountedCells.{CountedCells}
use Rattle.pg_bench.specs.declared.streams.cells.CountedRows.{CountedRows}
use Rattle.pg_bench.proofs.Alike.{rows-given}
use Rattle.pg_bench.proofs.streams.cells.CountedRecords.iter_rows.Goals as goal

pub returns : goal.returns
returns g c = record {
  can_next = c.iter_rows.ensures.can_next;
  ends = c.iter_rows.ensures.ends;
  gives = rows-given (λ x y. g.R.Cell.AsStr.text x ≡ y) g.R.Columns.Iterator.next_gives (λ (s : CountedCells g.row.R-Columns.Denot). s.cells) g.R.Columns.Iterator.can_next g.R.Columns.Iterator.remaining g.R.Rows.Iterator.next_gives (λ (s : CountedRows g.row.R-Rows.Denot). s.rows) _ _ c.iter_rows.ensures.gives;
}
