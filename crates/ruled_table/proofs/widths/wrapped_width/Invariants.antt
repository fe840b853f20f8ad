use Rattle.std.proofs.Common.{◌≡◌, ◌≤◌, ◌-◌, [], All, drop, max, slice_index_or}
use Rattle.ruled_table.specs.Columns.{texts_at}
use Rattle.ruled_table.specs.Widths.{HasRoom, widest_wrapped}
use Rattle.ruled_table.proofs.widths.wrapped_width.Given as goal

abbrev pub invariant-loop-fields : goal.invariant-loop-fields
invariant-loop-fields l = record {
  widest : max l.width (widest_wrapped l.breaking (l.limit - 2) (texts_at l.fn.rows.places.now (drop l.fields-index l.fn.rows.records.now)) l.column)
      ≡ widest_wrapped l.breaking (l.limit - 2) (texts_at l.fn.rows.places.now l.fn.rows.records.now) l.column;
  within : l.width ≤ l.limit - 2;
  room : All (λ row. HasRoom l.breaking (l.limit - 2) (slice_index_or row l.column [])) (texts_at l.fn.rows.places.now (drop l.fields-index l.fn.rows.records.now))
      → All (λ row. HasRoom l.breaking (l.limit - 2) (slice_index_or row l.column [])) (texts_at l.fn.rows.places.now l.fn.rows.records.now);
}
