use Rattle.std.proofs.Common.{◌-◌, ◌≡◌, ◌≤◌, true, map}
use Rattle.pg_config.specs.Spans.{is_left}
use Rattle.pg_picture.specs.Inside.{first_failed, row_places}
use Rattle.pg_picture.specs.Grids.{bare_table}
use Rattle.pg_stream.specs.ShownRows.{row_cell_shows_all}
use Rattle.pg_stream.proofs.printer.frame.Frame.first_unshown.Given as goal

-- the places so far show all, and the next one is in its owner's left column
abbrev pub invariant-loop-column : goal.invariant-loop-column
invariant-loop-column g l =
    let t = bare_table g.D.Dimension.width g.D.Dimension.height g.C.Colors.color l.self.sheet in
    let texts = map g.S.AsStr.text l.cells in
    record {
      shown : first_failed (row_cell_shows_all t texts) (row_places t.columns l.row 0) ≡ first_failed (row_cell_shows_all t texts) (row_places t.columns l.row l.column);
      left : is_left t.config.spans l.row l.column ≡ true;
      inside : l.column ≤ t.columns;
    }

abbrev pub decreases-loop-column : goal.decreases-loop-column
decreases-loop-column g l = l.self.sheet.columns - l.column
