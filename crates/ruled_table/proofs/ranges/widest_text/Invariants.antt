use Rattle.std.proofs.Common.{◌≡◌, drop, max}
use Rattle.ruled_table.specs.Columns.{texts_at}
use Rattle.ruled_table.specs.Bounds.{widest_text}
use Rattle.ruled_table.proofs.ranges.widest_text.Given as goal

abbrev pub invariant-loop-fields : goal.invariant-loop-fields
invariant-loop-fields l =
    max l.width (widest_text (texts_at l.fn.rows.places.now (drop l.fields-index l.fn.rows.records.now)) l.column) ≡ widest_text (texts_at l.fn.rows.places.now l.fn.rows.records.now) l.column
