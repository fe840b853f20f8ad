use Rattle.std.proofs.Common.{◌≡◌, List, flat_map, drop, slice_index_or, []}
use Rattle.std.specs.List.{range_with_len}
use Rattle.pg_layout.specs.Records.{AlwaysGives}
use Rattle.pg_layout.specs.Text.{Text}
use Rattle.pg_picture.proofs.Appending.{Gained}
use Rattle.pg_compact.specs.Inside.{IsRow, printed_table, text_column}
use Rattle.pg_compact.proofs.printer.CompactPrinter.push_cells.Given as goal

-- the columns so far, and the cells that are left
abbrev pub invariant-loop-column : goal.invariant-loop-column
invariant-loop-column g l =
    (goal.iterator-loop-column g).can_next l.cells ×
    (goal.iterator-loop-column g).is_finite l.cells ×
    ((texts : List (List Text)) → IsRow g.T.AsStr.text g.I.Iterator.next_gives l.self.columns texts l.row l.fn.cells →
    AlwaysGives (λ x y. g.T.AsStr.text x ≡ y) g.I.Iterator.next_gives l.cells (drop l.column (slice_index_or texts l.row [])) ×
    Gained l.fn.buf l.buf (flat_map (text_column (printed_table g.D.Dimension.width g.C.Colors.color l.self texts) l.row) (range_with_len 0 l.column)))
