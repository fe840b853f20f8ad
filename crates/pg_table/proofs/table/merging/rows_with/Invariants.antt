use Rattle.std.proofs.Common.{◌≡◌, ◌≤◌, ◌+◌, ◌-◌}
use Rattle.pg_table.specs.OwnRows.{has_text}
use Rattle.std.specs.List.{prefix_len, range_with_len}
use Rattle.pg_table.proofs.table.merging.rows_with.Given as goal

-- all rows so far have the text
abbrev pub invariant-loop-row : goal.invariant-loop-row
invariant-loop-row g l = record {
  counted : prefix_len (has_text (g.R.Records.texts l.records) l.column l.text) (range_with_len l.first (l.rows - l.first))
      ≡ (l.row - l.first) + prefix_len (has_text (g.R.Records.texts l.records) l.column l.text) (range_with_len l.row (l.rows - l.row));
  first : l.first ≤ l.row;
}
