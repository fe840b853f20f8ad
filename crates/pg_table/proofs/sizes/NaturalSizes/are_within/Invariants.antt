use Rattle.std.proofs.Common.{◌≡◌, ℕ, ◌-◌, ◌^◌, ◌<◌, ◌≤◌, true, sum_by}
use Rattle.std.specs.List.{range_with_len}
use Rattle.pg_table.specs.Fitted.{beside_columns, limit_of, IsNarrow}
use Rattle.pg_table.specs.Inside.{size_of}
use Rattle.pg_table.specs.declared.sizes.Axis.TheVariants.{Columns}
use Rattle.pg_table.proofs.sizes.NaturalSizes.are_within.Given as goal

-- what the columns so far leave, that they fit, and whether they are within the limits
abbrev pub invariant-loop-column : goal.invariant-loop-column
invariant-loop-column g l = record {
  left : l.left ≡ l.total - beside_columns l.self.config.now l.columns - sum_by (size_of g.R.Records.texts g.R.Records.columns l.self Columns) (range_with_len 0 l.column);
  fit : (k : ℕ) → k < l.column → size_of g.R.Records.texts g.R.Records.columns l.self Columns k < 2 ^ 64;
  each : l.within ≡ true → (k : ℕ) → k < l.column → size_of g.R.Records.texts g.R.Records.columns l.self Columns k ≤ limit_of l.limits k;
  together : l.within ≡ true → sum_by (size_of g.R.Records.texts g.R.Records.columns l.self Columns) (range_with_len 0 l.column) ≤ l.total - beside_columns l.self.config.now l.columns;
  narrow : IsNarrow l.total l.limits l.self.config.now (g.R.Records.texts l.self.records) (g.R.Records.columns l.self.records) → l.within ≡ true;
}
