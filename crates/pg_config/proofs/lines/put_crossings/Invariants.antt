use Rattle.std.proofs.Common.{◌≡◌}
use Rattle.pg_config.specs.Overrides.{HasColumns, line_crossing, with_row}
use Rattle.pg_config.proofs.lines.put_crossings.Given as goal

abbrev pub invariant-loop-col : goal.invariant-loop-col
invariant-loop-col g l = record {
  now : l.crossings.now ≡ with_row l.row l.col (λ c. line_crossing l.line l.columns c) l.initial.crossings.now;
  has_columns : HasColumns l.index.now l.crossings.now;
  before : l.crossings.before ≡ l.initial.crossings.before;
  before_columns : l.index.before ≡ l.initial.index.before;
}
