use Rattle.std.proofs.Common.{◌≡◌, map, slice_index}
use Rattle.std.specs.List.{range_with_len}
use Rattle.pg_fit.specs.Narrowing.{limited}
use Rattle.pg_table.specs.Overflowing.{limit_of}
use Rattle.pg_table.proofs.spanning.ranges_of.Given as goal

-- those so far are listed
abbrev pub invariant-loop-column : goal.invariant-loop-column
invariant-loop-column g l =
    l.ranges.items ≡ map (λ k. limited (limit_of l.limits k) (record { least = slice_index l.least k; natural = slice_index l.naturals k })) (range_with_len 0 l.column)
