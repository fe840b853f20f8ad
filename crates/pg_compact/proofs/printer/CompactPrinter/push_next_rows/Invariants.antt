use Rattle.std.proofs.Common.{◌≡◌, ◌+◌, List, [], IfSome, flat_map}
use Rattle.std.specs.List.{range_with_len}
use Rattle.pg_layout.specs.Records.{Gives}
use Rattle.pg_layout.specs.Text.{Text}
use Rattle.pg_picture.proofs.Appending.{Gained}
use Rattle.pg_picture.specs.CompactLines.{row_lines}
use Rattle.pg_picture.specs.Pieces.{fed}
use Rattle.pg_compact.specs.Inside.{AreRows, IsInnerSeparator, printed_table}
use Rattle.pg_compact.proofs.printer.CompactPrinter.push_next_rows.Given as goal

-- the rows so far, the rows that are left, and the separator that is kept
abbrev pub invariant-loop-cells : goal.invariant-loop-cells
invariant-loop-cells g l =
    let is_row = Gives (λ x y. g.T.AsStr.text x ≡ y) g.Cells.Iterator.can_next g.Cells.Iterator.next_gives g.Cells.Iterator.remaining in
    ((texts : List (List Text)) × AreRows is_row g.Rows.Iterator.can_next g.Rows.Iterator.next_gives g.Rows.Iterator.remaining l.self.columns (l.row + 1) texts l.cells-iterator) ×
    ((texts : List (List Text)) → AreRows is_row g.Rows.Iterator.can_next g.Rows.Iterator.next_gives g.Rows.Iterator.remaining l.self.columns 1 texts l.fn.rows →
    AreRows is_row g.Rows.Iterator.can_next g.Rows.Iterator.next_gives g.Rows.Iterator.remaining l.self.columns (l.row + 1) texts l.cells-iterator ×
    Gained l.fn.buf l.buf (fed (flat_map (row_lines (printed_table g.D.Dimension.width g.C.Colors.color l.self texts)) (range_with_len 1 l.row)))) ×
    IfSome l.kept.text (IsInnerSeparator (printed_table g.D.Dimension.width g.C.Colors.color l.self []))
