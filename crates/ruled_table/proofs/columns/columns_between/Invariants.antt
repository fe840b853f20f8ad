use Rattle.std.proofs.Common.{◌≡◌, ◌-◌, ◌≤◌}
use Rattle.std.specs.List.{range_with_len}
use Rattle.ruled_table.proofs.columns.columns_between.Given as goal

abbrev pub invariant-loop-column : goal.invariant-loop-column
invariant-loop-column l = (l.columns.items ≡ range_with_len l.fn.first (l.column - l.fn.first)) × (l.column - l.fn.first ≤ l.end - l.fn.first)
