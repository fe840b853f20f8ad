use Rattle.std.proofs.Common.{◌≡◌, ◌<◌, ◌≤◌, ℕ, [], length, max, slice_index, slice_index_or}
use Rattle.csv.specs.Records.{fields_of}
use Rattle.pg_layout.specs.Text.{text_width_of}
use Rattle.ruled_table.specs.Columns.{fields_at}
use Rattle.ruled_table.proofs.ranges.raise_to_row.Given as goal

-- those so far are raised, and the others are as they were
abbrev pub invariant-loop-column : goal.invariant-loop-column
invariant-loop-column l = record {
  same : length l.widths ≡ length l.fn.widths;
  before : (k : ℕ) → k < l.column → slice_index l.widths k ≡ max (slice_index l.fn.widths k) (text_width_of (slice_index_or (fields_at l.places (fields_of l.fields)) k []));
  after : (k : ℕ) → l.column ≤ k → slice_index l.widths k ≡ slice_index l.fn.widths k;
}
