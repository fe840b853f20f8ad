use Rattle.std.proofs.Common.{◌≡◌, map}
use Rattle.std.specs.List.{range_with_len}
use Rattle.pg_layout.specs.Position.{at}
use Rattle.pg_layout.specs.Records.{text_at}
use Rattle.pg_table.proofs.table.transposed.column_texts.Given as goal

-- the texts so far
abbrev pub invariant-loop-row : goal.invariant-loop-row
invariant-loop-row g l =
    map (λ text. text.now) l.texts.items ≡ map (λ r. text_at (g.R.Records.texts l.records) (at r l.column)) (range_with_len 0 l.row)
