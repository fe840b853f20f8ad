use Rattle.std.proofs.Common.{◌≡◌, ◌∷◌, List}
use Rattle.pg_layout.specs.Records.{Gives}
use Rattle.pg_layout.specs.Text.{Text}
use Rattle.pg_stream.specs.Conditions.{AreRowsFrom, RowsFit}
use Rattle.pg_stream.specs.Inside.{IsSoundAt}
use Rattle.pg_stream.specs.Printers.{now_of}
use Rattle.pg_stream.specs.Printing.{rows_text}
use Rattle.pg_stream.proofs.PicturesOfRows.{Printed}
use Rattle.pg_stream.proofs.printer.progress.Progress.push_rows.Given as goal

-- the row that was taken and those behind it may be printed, and make the rest of the text
abbrev pub invariant-loop-next : goal.invariant-loop-next
invariant-loop-next g l =
    let is_row = Gives (λ x y. g.S.AsStr.text x ≡ y) g.Cells.Iterator.can_next g.Cells.Iterator.next_gives g.Cells.Iterator.remaining in
    let steps = g.Rows.Iterator.next_gives in
    let now = now_of g.T.TableMarker.table l.frame.hint l.progress in
    let start = now_of g.T.TableMarker.table l.frame.hint l.fn.self in
    (goal.iterator-loop-next g).can_next l.next-iterator ×
    (goal.iterator-loop-next g).is_finite l.next-iterator ×
    ((cells : List Text) × (texts : List (List Text)) × AreRowsFrom is_row steps l.row l.next-iterator cells texts × RowsFit now (cells ∷ texts)) ×
    ((cells : List Text) (texts : List (List Text)) → AreRowsFrom is_row steps l.fn.first l.fn.rows cells texts → Printed is_row steps l.fn.buf l.buf l.row l.next-iterator now (rows_text start (cells ∷ texts))) ×
    IsSoundAt g.T.TableMarker.table l.frame l.progress
