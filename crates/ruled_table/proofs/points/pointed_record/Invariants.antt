use Rattle.std.proofs.Common.{◌≡◌, [], map, slice_index_or}
use Rattle.std.specs.List.{range_with_len}
use Rattle.csv.specs.Records.{fields_of}
use Rattle.ruled_table.specs.Sides.{extent_at, pointed}
use Rattle.ruled_table.proofs.points.pointed_record.Given as goal

abbrev pub invariant-loop-field : goal.invariant-loop-field
invariant-loop-field l = fields_of l.made ≡ map (λ field. pointed (extent_at l.extents field).rest (slice_index_or (fields_of l.fields) field [])) (range_with_len 0 l.field)
