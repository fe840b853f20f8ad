use Rattle.std.proofs.Common.{◌≡◌, List, map, Result}
use Rattle.std.specs.Iterator.{IsFinite, size}
use Rattle.std.specs.Result.{result_map_both}
use Rattle.pg_layout.specs.Records.{AlwaysGives}
use Rattle.pg_layout.specs.Text.{Text}
use Rattle.pg_stream.specs.Inside.{streamed, AreSoundAt}
use Rattle.pg_stream.specs.Streams.{Streaming}
use Rattle.pg_stream.proofs.stream.StreamedResults.{Streamed, Ran}
use Rattle.pg_stream.proofs.stream.StreamedRows.{IsUntouched}
use Rattle.pg_stream.proofs.stream.held_rows.HeldRows.push_results.Given as goal

-- what the rows that are left append is what all append
abbrev pub invariant-loop-row : goal.invariant-loop-row
invariant-loop-row g l =
    let now : Streaming = streamed g.S.AsStr.text g.T.TableMarker.table l.frame.hint l.pushed in
    let began : Streaming = streamed g.S.AsStr.text g.T.TableMarker.table l.frame.hint l.fn.self in
    g.I.Iterator.can_next l.rows ×
    IsFinite (g.I.Iterator.remaining l.rows) ×
    ((items : List (Result (List Text) g.row.E.Denot))
    → AlwaysGives (λ x y. result_map_both (λ row. map g.S.AsStr.text row.items) (λ error. error) x ≡ y) g.I.Iterator.next_gives l.fn.rows items
    → Streamed (Unit {0}) (λ x. result_map_both (λ row. map g.S.AsStr.text row.items) (λ error. error) x) g.I.Iterator.next_gives l.fn.buf l.buf l.rows now began items) ×
    AreSoundAt g.T.TableMarker.table l.frame l.pushed ×
    Ran (λ x. result_map_both (λ row. map g.S.AsStr.text row.items) (λ error. error) x) g.I.Iterator.next_gives l.fn.buf l.buf now began l.fn.rows l.rows ×
    IsUntouched g.I.Iterator.next_gives l.fn.self.held l.pushed.held l.fn.rows l.rows l.fn.buf l.buf

abbrev pub decreases-loop-row : goal.decreases-loop-row
decreases-loop-row g l = size (g.I.Iterator.remaining l.rows)
