use Rattle.std.proofs.Common.{◌≡◌, flat_map}
use Rattle.std.specs.List.{range_with_len}
use Rattle.pg_picture.proofs.Appending.{Gained}
use Rattle.pg_picture.specs.Inside.{items_after, last_color}
use Rattle.pg_picture.specs.Table.{separator_part}
use Rattle.pg_peekable.proofs.looked_up_table.LookedUpTable.push_columns.Given as goal

abbrev pub invariant-loop-column : goal.invariant-loop-column
invariant-loop-column g l =
    let t = g.T.TableMarker.table in
    let so_far = flat_map (separator_part t l.separator.row) (range_with_len 0 l.column) in
    record { gained : Gained l.fn.buf l.buf (items_after l.fn.run so_far); color : l.run ≡ last_color l.fn.run so_far }
