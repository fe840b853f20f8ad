use Rattle.std.proofs.Common.{◌≡◌, ◌-◌}
use Rattle.pg_picture.specs.Inside.{rows_height}
use Rattle.pg_peekable.proofs.looked_up_table.LookedUpTable.lines_above.Given as goal

abbrev pub invariant-loop-above : goal.invariant-loop-above
invariant-loop-above g l = l.lines ≡ rows_height g.T.TableMarker.table l.fn.known.rectangle.corner.row (l.above - l.fn.known.rectangle.corner.row)
