use Rattle.std.proofs.Common.{◌≡◌, drop, max}
use Rattle.ruled_table.specs.Columns.{texts_at}
use Rattle.ruled_table.specs.Sides.{extent_of}
use Rattle.ruled_table.proofs.points.extent_of.Given as goal

abbrev pub invariant-loop-fields : goal.invariant-loop-fields
invariant-loop-fields l = record {
  whole : max l.whole (extent_of (texts_at l.fn.rows.places.now (drop l.fields-index l.fn.rows.records.now)) l.column).whole ≡ (extent_of (texts_at l.fn.rows.places.now l.fn.rows.records.now) l.column).whole;
  rest : max l.rest (extent_of (texts_at l.fn.rows.places.now (drop l.fields-index l.fn.rows.records.now)) l.column).rest ≡ (extent_of (texts_at l.fn.rows.places.now l.fn.rows.records.now) l.column).rest;
}
