use Rattle.std.proofs.Common.{◌≡◌, List, map}
use Rattle.pg_layout.specs.Records.{AlwaysGives}
use Rattle.pg_layout.specs.Text.{Text}
use Rattle.pg_stream.specs.Inside.{streamed, AreSoundAt}
use Rattle.pg_stream.specs.Streams.{Streaming}
use Rattle.pg_stream.proofs.stream.StreamedRows.{Pushed, IsUntouched}
use Rattle.pg_stream.proofs.stream.StreamedResults.{AllBehind}
use Rattle.pg_stream.proofs.stream.held_rows.HeldRows.push_all.Given as goal

-- what the rows that are left append is what all append
abbrev pub invariant-loop-row : goal.invariant-loop-row
invariant-loop-row g l =
    let now : Streaming = streamed g.S.AsStr.text g.T.TableMarker.table l.frame.hint l.pushed in
    let began : Streaming = streamed g.S.AsStr.text g.T.TableMarker.table l.frame.hint l.fn.self in
    (goal.iterator-loop-row g).can_next l.row-iterator ×
    (goal.iterator-loop-row g).is_finite l.row-iterator ×
    ((texts : List (List Text)) → AlwaysGives (λ x y. map g.S.AsStr.text x.items ≡ y) g.I.Iterator.next_gives l.fn.rows texts
    → Pushed (Unit {0}) (λ x. map g.S.AsStr.text x.items) g.I.Iterator.next_gives l.fn.buf l.buf l.row-iterator now began texts) ×
    AreSoundAt g.T.TableMarker.table l.frame l.pushed ×
    AllBehind l.fn.buf l.buf now began (map (λ x. map g.S.AsStr.text x.items) l.yielded) ×
    IsUntouched g.I.Iterator.next_gives l.fn.self.held l.pushed.held l.fn.rows l.row-iterator l.fn.buf l.buf
