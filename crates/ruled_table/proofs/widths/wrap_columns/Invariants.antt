use Rattle.std.proofs.Common.{◌≡◌, ◌<◌, ◌≤◌, ◌+◌, ℕ, length, slice_index, sum_by}
use Rattle.std.specs.List.{range_with_len}
use Rattle.pg_table.specs.Overflowing.{limit_of}
use Rattle.ruled_table.specs.Columns.{texts_at}
use Rattle.ruled_table.specs.Widths.{IsLowered, lowered}
use Rattle.ruled_table.proofs.widths.wrap_columns.Given as goal

-- those so far are lowered, and the others are as they were
abbrev pub invariant-loop-column : goal.invariant-loop-column
invariant-loop-column l = record {
  same : length l.widths ≡ length l.fn.widths;
  sum : sum_by (lowered l.fn.widths l.limits) (range_with_len 0 l.column) + l.left ≡ l.room;
  before : (k : ℕ) → k < l.column → IsLowered l.breaking (limit_of l.limits k) (texts_at l.fn.rows.places.now l.fn.rows.records.now) k (slice_index l.fn.widths k) (slice_index l.widths k);
  after : (k : ℕ) → l.column ≤ k → slice_index l.widths k ≡ slice_index l.fn.widths k;
}
