use Rattle.std.proofs.Common.{◌≡◌, ◌≤◌, length, max}
use Rattle.pg_table.specs.OwnRows.{AreWidened}
use Rattle.pg_table.proofs.table.settings.align_points.Given as goal

-- the cells so far
abbrev pub invariant-loop-row : goal.invariant-loop-row
invariant-loop-row g l = record {
  widened : AreWidened (g.R.Records.texts l.records) l.from l.column l.row l.initial.config l.config;
  others : l.config ≡ record l.initial.config { padding = l.config.padding };
  bound : l.row ≤ max l.from (length (g.R.Records.texts l.records));
}
