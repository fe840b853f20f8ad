use Rattle.std.proofs.Common.{◌≡◌, map, length}
use Rattle.std.specs.List.{range_with_len}
use Rattle.pg_layout.specs.Position.{at}
use Rattle.pg_layout.specs.Records.{text_at}
use Rattle.pg_table.proofs.table.transposed.columns_as_rows.Given as goal

-- the columns so far
abbrev pub invariant-loop-column : goal.invariant-loop-column
invariant-loop-column g l =
    map (λ row. map (λ text. text.now) row.items) l.rows.items
    ≡ map (λ c. map (λ r. text_at (g.R.Records.texts l.records) (at r c)) (range_with_len 0 (length (g.R.Records.texts l.records)))) (range_with_len 0 l.column)
