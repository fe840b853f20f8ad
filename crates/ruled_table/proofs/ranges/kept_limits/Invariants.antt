use Rattle.std.proofs.Common.{◌≡◌, map}
use Rattle.std.specs.List.{range_with_len}
use Rattle.ruled_table.specs.Columns.{texts_of}
use Rattle.ruled_table.specs.Bounds.{range_of}
use Rattle.ruled_table.proofs.ranges.kept_limits.Given as goal

abbrev pub invariant-loop-column : goal.invariant-loop-column
invariant-loop-column l = l.ranges.items ≡ map (range_of l.options (texts_of l.fields) (texts_of l.rows)) (range_with_len 0 l.column)
