use Rattle.std.proofs.Common.{◌≡◌}
use Rattle.pg_picture.specs.Sizes.{table_of}
use Rattle.pg_picture.specs.Inside.{first_failed, owner_passes, places_from}
use Rattle.pg_picture.proofs.sized_table.SizedTable.first_failing.Given as goal

-- the rows so far pass
abbrev pub invariant-loop-row : goal.invariant-loop-row
invariant-loop-row g l =
    let t = table_of l.self.config.now (g.D.Dimension.width l.self.dimension.now) (g.D.Dimension.height l.self.dimension.now) (g.R.Records.texts l.self.records.now) (g.R.Records.columns l.self.records.now) in
    first_failed (owner_passes g.T.CellTest.test t) (places_from t.rows t.columns 0) ≡ first_failed (owner_passes g.T.CellTest.test t) (places_from t.rows t.columns l.row)
