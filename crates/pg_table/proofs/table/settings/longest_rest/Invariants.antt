use Rattle.std.proofs.Common.{◌≡◌, ◌≤◌, ◌-◌, length, map, max}
use Rattle.std.specs.List.{range_with_len}
use Rattle.pg_layout.specs.Position.{at}
use Rattle.pg_layout.specs.Records.{text_at}
use Rattle.pg_layout.specs.Text.{greatest}
use Rattle.pg_table.specs.Numbers.{own_extent}
use Rattle.pg_table.proofs.table.settings.longest_rest.Given as goal

-- the longest so far
abbrev pub invariant-loop-row : goal.invariant-loop-row
invariant-loop-row g l = record {
  longest : l.longest ≡ greatest (map (λ r. (own_extent (text_at (g.R.Records.texts l.records) (at r l.column))).rest) (range_with_len l.from (l.row - l.from)));
  bound : l.row ≤ max l.from (length (g.R.Records.texts l.records));
}
