use Rattle.std.proofs.Common.{◌≡◌, List}
use Rattle.pg_layout.specs.Records.{AlwaysGives}
use Rattle.pg_layout.specs.Text.{Text}
use Rattle.pg_stream.specs.Inside.{reach}
use Rattle.pg_stream.proofs.draw.Beginning.{IsReading}
use Rattle.pg_stream.proofs.draw.streamed_table.StreamedTable.begin.Given as goal

abbrev pub invariant-loop-column : goal.invariant-loop-column
invariant-loop-column g l =
    let t = g.T.TableMarker.table in
    (l.end ≡ reach t.config.spans l.opened l.column)
    × ((texts : List Text) → AlwaysGives (λ x y. g.S.AsStr.text x ≡ y) g.I.Iterator.next_gives l.fn.cells texts → IsReading g.S.AsStr.text g.I.Iterator.next_gives t l.row l.column l.fn.opened texts l.opened l.cells)
