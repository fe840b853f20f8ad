use Rattle.std.proofs.Common.{◌≡◌, ◌<◌, ℕ, drop, length, max, slice_index}
use Rattle.pg_layout.specs.Records.{columns_of}
use Rattle.ruled_table.specs.Columns.{texts_at}
use Rattle.ruled_table.specs.Bounds.{are_counted, widest_text}
use Rattle.ruled_table.proofs.ranges.raise_to_rows.Given as goal

abbrev pub invariant-loop-fields : goal.invariant-loop-fields
invariant-loop-fields l = record {
  many : length l.widths ≡ columns_of (texts_at l.fn.rows.places.now l.fn.rows.records.now);
  widths : (k : ℕ) → k < length l.widths
      → max (slice_index l.widths k) (widest_text (texts_at l.fn.rows.places.now (drop l.fields-index l.fn.rows.records.now)) k) ≡ widest_text (texts_at l.fn.rows.places.now l.fn.rows.records.now) k;
  counted : are_counted (drop l.fields-index l.fn.rows.records.now) ≡ are_counted l.fn.rows.records.now;
}
