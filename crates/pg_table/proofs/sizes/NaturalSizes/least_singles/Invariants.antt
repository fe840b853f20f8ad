use Rattle.std.proofs.Common.{◌≡◌, length, map}
use Rattle.std.specs.List.{range_with_len}
use Rattle.pg_layout.specs.Records.{text_at}
use Rattle.pg_table.specs.Spanning.{singles_width, least_cell_width}
use Rattle.pg_table.proofs.sizes.NaturalSizes.least_singles.Given as goal

-- those so far are listed
abbrev pub invariant-loop-column : goal.invariant-loop-column
invariant-loop-column g l =
    l.widths.items
    ≡ map (singles_width l.self.config.now (length (g.R.Records.texts l.self.records)) (g.R.Records.columns l.self.records) (least_cell_width l.how l.self.config.now (text_at (g.R.Records.texts l.self.records)))) (range_with_len 0 l.column)
