use Rattle.std.proofs.Common.{◌<◌, ℕ, map, slice_index_or, []}
use Rattle.pg_layout.specs.Position.{at}
use Rattle.pg_picture.specs.Inside.{IsOfKind}
use Rattle.pg_picture.specs.Grids.{bare_table}
use Rattle.pg_stream.specs.Conditions.{HasRoom}
use Rattle.pg_stream.proofs.printer.frame.Frame.kind_if_room_alone.Given as goal

-- the cells before the column have room, and their texts are of one kind
abbrev pub invariant-loop-column : goal.invariant-loop-column
invariant-loop-column g l =
    let t = bare_table g.D.Dimension.width g.D.Dimension.height g.C.Colors.color l.self.sheet in
    let texts = map g.S.AsStr.text l.cells in
    (x : ℕ) → x < l.column → HasRoom t (at l.row x) (slice_index_or texts x []) × IsOfKind l.common (slice_index_or texts x [])
