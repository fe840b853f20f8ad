use Rattle.std.proofs.Common.{◌≡◌, ◌≤◌, ◌-◌, true}
use Rattle.pg_config.specs.Spans.{is_left}
use Rattle.pg_picture.specs.Sizes.{table_of}
use Rattle.pg_picture.specs.Inside.{first_failed, owner_passes, row_places}
use Rattle.pg_picture.proofs.sized_table.SizedTable.failing_in_row.Given as goal

-- the places so far pass, and the next one is in its owner's left column
abbrev pub invariant-loop-column : goal.invariant-loop-column
invariant-loop-column g l =
    let t = table_of l.self.config.now (g.D.Dimension.width l.self.dimension.now) (g.D.Dimension.height l.self.dimension.now) (g.R.Records.texts l.self.records.now) (g.R.Records.columns l.self.records.now) in
    record {
      passed : first_failed (owner_passes g.T.CellTest.test t) (row_places t.columns l.row 0) ≡ first_failed (owner_passes g.T.CellTest.test t) (row_places t.columns l.row l.column);
      left : is_left t.config.spans l.row l.column ≡ true;
      inside : l.column ≤ t.columns;
    }

abbrev pub decreases-loop-column : goal.decreases-loop-column
decreases-loop-column g l = g.R.Records.columns l.self.records.now - l.column
