use Rattle.std.proofs.Common.{◌≡◌, max, map}
use Rattle.std.specs.List.{range_with_len}
use Rattle.pg_layout.specs.Position.{at}
use Rattle.pg_layout.specs.Records.{text_at}
use Rattle.pg_layout.specs.Text.{greatest}
use Rattle.pg_picture.specs.Sizes.{if_fits}
use Rattle.pg_table.specs.Natural.{paddings}
use Rattle.pg_table.specs.declared.sizes.Axis.TheVariants.{Columns}
use Rattle.pg_table.proofs.ListedSizes.{cell}
use Rattle.pg_table.proofs.sizes.NaturalSizes.least_width.Given as goal

-- the greatest of the cells so far
abbrev pub invariant-loop-row : goal.invariant-loop-row
invariant-loop-row g l =
    l.width
    ≡ if_fits (max (paddings Columns l.self.config.now (at 0 l.column)) (greatest (map (cell l.how l.self.config.now (text_at (g.R.Records.texts l.self.records)) l.row l.column) (range_with_len 0 l.row))))
