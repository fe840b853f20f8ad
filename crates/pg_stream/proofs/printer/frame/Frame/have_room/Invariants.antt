use Rattle.std.proofs.Common.{◌-◌, ◌≡◌, ◌<◌, ◌≤◌, ℕ, true, map, slice_index_or, []}
use Rattle.pg_layout.specs.Position.{at, is_at}
use Rattle.pg_config.specs.Spans.{owner, is_left}
use Rattle.pg_stream.specs.Conditions.{HasRoom}
use Rattle.pg_picture.specs.Grids.{bare_table}
use Rattle.pg_stream.proofs.printer.frame.Frame.have_room.Given as goal

-- the owners before the column have room, and the next one has it as its left column
abbrev pub invariant-loop-column : goal.invariant-loop-column
invariant-loop-column g l =
    let t = bare_table g.D.Dimension.width g.D.Dimension.height g.C.Colors.color l.self.sheet in
    record {
      rooms : (x : ℕ) → x < l.column → is_at (owner t.config.spans l.row x) l.row x ≡ true → HasRoom t (at l.row x) (slice_index_or (map g.S.AsStr.text l.cells) x []);
      left : is_left t.config.spans l.row l.column ≡ true;
      inside : l.column ≤ t.columns;
    }

abbrev pub decreases-loop-column : goal.decreases-loop-column
decreases-loop-column g l = l.self.sheet.columns - l.column
