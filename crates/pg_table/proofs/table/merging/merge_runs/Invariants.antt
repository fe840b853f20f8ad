use Rattle.std.proofs.Common.{◌≡◌}
use Rattle.std.specs.List.{fold, range_with_len}
use Rattle.pg_table.specs.Even.{IsNarrowLook}
use Rattle.pg_table.specs.OwnRows.{with_run}
use Rattle.pg_table.proofs.table.merging.merge_runs.Given as goal

-- the runs that begin in the rows so far
abbrev pub invariant-loop-row : goal.invariant-loop-row
invariant-loop-row g l = record {
  spans : l.config ≡ record l.initial.config { spans = fold (with_run (g.R.Records.texts l.records) l.column) l.initial.config.spans (range_with_len 0 l.row) };
  narrow : IsNarrowLook l.initial.config → IsNarrowLook l.config;
}
