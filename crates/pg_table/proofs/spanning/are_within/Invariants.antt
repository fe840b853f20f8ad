use Rattle.std.proofs.Common.{◌≡◌, ℕ, ◌-◌, ◌<◌, ◌≤◌, length, slice_index, sum_by}
use Rattle.std.specs.List.{range_with_len}
use Rattle.pg_table.specs.Overflowing.{beside_columns, limit_of}
use Rattle.pg_table.proofs.spanning.are_within.Given as goal

-- what the columns so far leave, and that they are within the limits
abbrev pub invariant-loop-column : goal.invariant-loop-column
invariant-loop-column g l = record {
  left : l.left ≡ (l.total - beside_columns l.config (length l.widths)) - sum_by (slice_index l.widths) (range_with_len 0 l.column);
  each : (k : ℕ) → k < l.column → slice_index l.widths k ≤ limit_of l.limits k;
  together : sum_by (slice_index l.widths) (range_with_len 0 l.column) ≤ l.total - beside_columns l.config (length l.widths);
}
