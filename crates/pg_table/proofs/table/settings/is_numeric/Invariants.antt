use Rattle.std.proofs.Common.{◌≡◌, ℕ, ◌<◌, ◌≤◌, true}
use Rattle.pg_layout.specs.Position.{at}
use Rattle.pg_layout.specs.Records.{text_at}
use Rattle.pg_table.specs.Numbers.{is_number_or_blank}
use Rattle.pg_table.proofs.table.settings.is_numeric.Given as goal

-- the texts so far
abbrev pub invariant-loop-row : goal.invariant-loop-row
invariant-loop-row g l = record {
  numbers : (k : ℕ) → 1 ≤ k → k < l.row → is_number_or_blank (text_at (g.R.Records.texts l.records) (at k l.column)) ≡ true;
  first : 1 ≤ l.row;
}
