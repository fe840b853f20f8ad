use Rattle.std.proofs.Common.{◌≡◌, map}
use Rattle.std.specs.List.{range_with_len}
use Rattle.pg_layout.specs.Text.{greatest}
use Rattle.pg_table.proofs.ListedSizes.{least_single}
use Rattle.pg_table.proofs.sizes.NaturalSizes.least_by_singles.Given as goal

-- the greatest of the cells so far
abbrev pub invariant-loop-row : goal.invariant-loop-row
invariant-loop-row g l = l.width ≡ greatest (map (least_single l.how l.self.config.now (g.R.Records.texts l.self.records) l.column) (range_with_len 0 l.row))
