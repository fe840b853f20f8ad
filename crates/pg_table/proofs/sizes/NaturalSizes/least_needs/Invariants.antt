use Rattle.std.proofs.Common.{◌≡◌, ◌++◌, ◌^◌, true, nat_lt, length, map}
use Rattle.std.specs.List.{list_all}
use Rattle.pg_layout.specs.Records.{text_at}
use Rattle.pg_config.specs.Spans.{corner}
use Rattle.pg_picture.specs.Fits.{span_fits}
use Rattle.pg_table.specs.Spanning.{room_needed, least_cell_width}
use Rattle.pg_table.proofs.sizes.NaturalSizes.least_needs.Given as goal

-- those of the cells so far, and the cells that are left
abbrev pub invariant-loop-place : goal.invariant-loop-place
invariant-loop-place g l = record {
  needs : l.needs.items ++ map (room_needed l.self.config.now (length (g.R.Records.texts l.self.records)) (g.R.Records.columns l.self.records) (least_cell_width l.how l.self.config.now (text_at (g.R.Records.texts l.self.records)))) l.place-iterator
      ≡ map (room_needed l.self.config.now (length (g.R.Records.texts l.self.records)) (g.R.Records.columns l.self.records) (least_cell_width l.how l.self.config.now (text_at (g.R.Records.texts l.self.records)))) l.self.config.now.spans;
  left : list_all (span_fits (length (g.R.Records.texts l.self.records)) (g.R.Records.columns l.self.records)) l.place-iterator ≡ true;
  sized : list_all (λ s. nat_lt (least_cell_width l.how l.self.config.now (text_at (g.R.Records.texts l.self.records)) (corner s)) (2 ^ 64)) l.self.config.now.spans
      ≡ list_all (λ s. nat_lt (least_cell_width l.how l.self.config.now (text_at (g.R.Records.texts l.self.records)) (corner s)) (2 ^ 64)) l.place-iterator;
}
