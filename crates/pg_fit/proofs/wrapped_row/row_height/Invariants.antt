use Rattle.std.proofs.Common.{◌≡◌, max, map, drop}
use Rattle.pg_fit.specs.Rows.{row_height}
use Rattle.pg_fit.proofs.wrapped_row.row_height.Given as goal

abbrev pub invariant-loop-cell : goal.invariant-loop-cell
invariant-loop-cell g l = max l.height (row_height (map g.S.AsStr.text (drop l.cell-index l.cells))) ≡ row_height (map g.S.AsStr.text l.cells)
