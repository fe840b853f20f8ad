use Rattle.std.proofs.Common.{◌≡◌}
use Rattle.csv.specs.Records.{fields_of}
use Rattle.ruled_table.specs.Sides.{ruler_of}
use Rattle.ruled_table.proofs.points.ruler_of.Given as goal

abbrev pub invariant-loop-field : goal.invariant-loop-field
invariant-loop-field l = fields_of l.ruler ≡ ruler_of l.extents l.field
