use Rattle.std.proofs.Common.{◌≡◌, map, slice_index}
use Rattle.std.specs.List.{range_with_len}
use Rattle.pg_table.specs.Ranges.{ranged, range_of}
use Rattle.pg_table.proofs.sizes.NaturalSizes.ranged_widths.Given as goal

-- the ranges so far are listed
abbrev pub invariant-loop-column : goal.invariant-loop-column
invariant-loop-column g l =
    l.made.items ≡ map (λ k. ranged (range_of l.ranges k) (slice_index l.least.items k) (slice_index l.naturals k)) (range_with_len 0 l.column)
