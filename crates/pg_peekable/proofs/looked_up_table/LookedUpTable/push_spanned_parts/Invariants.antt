use Rattle.std.proofs.Common.{◌≡◌, ◌≤◌, ◌-◌, true, flat_map}
use Rattle.std.specs.List.{range_with_len}
use Rattle.pg_config.specs.Spans.{is_left}
use Rattle.pg_picture.proofs.Appending.{Gained}
use Rattle.pg_picture.specs.Pieces.{written}
use Rattle.pg_picture.specs.Table.{row_part}
use Rattle.pg_peekable.proofs.looked_up_table.LookedUpTable.push_spanned_parts.Given as goal

abbrev pub invariant-loop-column : goal.invariant-loop-column
invariant-loop-column g l =
    let t = g.T.TableMarker.table in
    record {
      gained : Gained l.fn.buf l.buf (written (flat_map (row_part t l.line.row l.line.number) (range_with_len 0 l.column)));
      left : is_left t.config.spans l.line.row l.column ≡ true;
      inside : l.column ≤ t.columns;
    }

abbrev pub decreases-loop-column : goal.decreases-loop-column
decreases-loop-column g l = l.self.sheet.columns - l.column
