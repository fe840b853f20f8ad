use Rattle.std.proofs.Common.{◌≡◌}
use Rattle.pg_table.specs.OwnRows.{with_numbers_right}
use Rattle.pg_table.proofs.table.settings.align_numbers.Given as goal

-- the columns so far
abbrev pub invariant-loop-column : goal.invariant-loop-column
invariant-loop-column g l =
    l.config ≡ record l.initial.config { alignment_horizontal = with_numbers_right (g.R.Records.texts l.records) l.column l.initial.config.alignment_horizontal }
