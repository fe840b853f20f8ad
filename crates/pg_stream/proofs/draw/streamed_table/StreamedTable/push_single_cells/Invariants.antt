use Rattle.std.proofs.Common.{◌≡◌, [], List, drop, flat_map, slice_index_or}
use Rattle.std.specs.List.{range_with_len}
use Rattle.pg_layout.specs.Records.{AlwaysGives}
use Rattle.pg_layout.specs.Text.{Text}
use Rattle.pg_picture.proofs.Appending.{Gained}
use Rattle.pg_picture.specs.Pieces.{written}
use Rattle.pg_stream.specs.Inside.{single_part}
use Rattle.pg_stream.proofs.draw.streamed_table.StreamedTable.push_single_cells.Given as goal

-- the cells so far, and those that are left
abbrev pub invariant-loop-column : goal.invariant-loop-column
invariant-loop-column g l =
    let t = g.T.TableMarker.table in
    (texts : List Text) → AlwaysGives (λ x y. g.S.AsStr.text x ≡ y) g.I.Iterator.next_gives l.fn.cells texts →
    AlwaysGives (λ x y. g.S.AsStr.text x ≡ y) g.I.Iterator.next_gives l.cells (drop l.column texts) ×
    Gained l.fn.buf l.buf (written (flat_map (λ x. single_part t l.row (slice_index_or texts x []) x) (range_with_len 0 l.column)))
