use Rattle.std.proofs.Common.{map}
use Rattle.std.specs.Vec.Iter.{into_iter_items}
use Rattle.pg_fit.specs.Rows.{fitted_text, is_kept, is_narrow}
use Rattle.pg_fit.specs.Wrapping.{wrapped}
use Rattle.pg_fit.proofs.NarrowedWidths.{IsMade}
use Rattle.pg_fit.proofs.wrapped_row.wrap_row.Given as goal

abbrev pub invariant-loop-cell : goal.invariant-loop-cell
invariant-loop-cell g l =
    let text = g.S.AsStr.text in
    IsMade (fitted_text text) (wrapped l.breaking) l.widths (map text l.fn.cells.items) l.row.items (map text (into_iter_items l.cell-iterator))
    × IsMade is_kept is_narrow l.widths (map text l.fn.cells.items) l.row.items (map text (into_iter_items l.cell-iterator))
