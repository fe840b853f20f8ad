use Rattle.std.proofs.Common.{◌≡◌, ◌++◌, map}
use Rattle.std.specs.Cow.{cow_str_bytes}
use Rattle.std.specs.Vec.Iter.{into_iter_items}
use Rattle.ruled_table.specs.RowLines.{held_text}
use Rattle.ruled_table.proofs.row_lines.owned.Given as goal

abbrev pub invariant-loop-cell : goal.invariant-loop-cell
invariant-loop-cell l = map held_text l.texts.items ++ map cow_str_bytes (into_iter_items l.cell-iterator) ≡ map cow_str_bytes l.fn.cells.items
