use Rattle.std.proofs.Common.{◌≡◌, ◌++◌, true, length, map}
use Rattle.std.specs.List.{list_all}
use Rattle.pg_layout.specs.Records.{text_at}
use Rattle.pg_config.specs.Spans.{corner}
use Rattle.pg_picture.specs.Fits.{span_fits}
use Rattle.pg_table.specs.Natural.{need_of, is_sized}
use Rattle.pg_table.specs.declared.sizes.Axis.TheVariants.{Columns, Rows}
use Rattle.pg_table.proofs.sizes.NaturalSizes.needs.Given as goal

-- those of the cells so far, and the cells that are left
abbrev pub invariant-loop-place : goal.invariant-loop-place
invariant-loop-place g l = record {
  columns : l.across.items ++ map (need_of Columns l.self.config.now (text_at (g.R.Records.texts l.self.records)) (g.R.Records.columns l.self.records)) l.place-iterator
      ≡ map (need_of Columns l.self.config.now (text_at (g.R.Records.texts l.self.records)) (g.R.Records.columns l.self.records)) l.self.config.now.spans;
  rows : l.down.items ++ map (need_of Rows l.self.config.now (text_at (g.R.Records.texts l.self.records)) (length (g.R.Records.texts l.self.records))) l.place-iterator
      ≡ map (need_of Rows l.self.config.now (text_at (g.R.Records.texts l.self.records)) (length (g.R.Records.texts l.self.records))) l.self.config.now.spans;
  left : list_all (span_fits (length (g.R.Records.texts l.self.records)) (g.R.Records.columns l.self.records)) l.place-iterator ≡ true;
  sized : list_all (λ s. is_sized l.self.config.now (text_at (g.R.Records.texts l.self.records)) (corner s)) l.self.config.now.spans
      ≡ list_all (λ s. is_sized l.self.config.now (text_at (g.R.Records.texts l.self.records)) (corner s)) l.place-iterator;
}
