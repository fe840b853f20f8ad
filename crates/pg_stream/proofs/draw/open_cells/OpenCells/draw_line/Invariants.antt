use Rattle.std.proofs.Common.{◌≡◌, map, take, drop}
use Rattle.pg_stream.specs.Inside.{draw_cell}
use Rattle.pg_stream.proofs.draw.open_cells.OpenCells.draw_line.Given as goal

abbrev pub invariant-loop-slot : goal.invariant-loop-slot
invariant-loop-slot g l =
    (drop l.slot-index l.slot-items ≡ drop l.slot-index l.initial.slot-items)
    × (take l.slot-index l.slot-items ≡ map (draw_cell 1) (take l.slot-index l.initial.slot-items))
