use Rattle.std.proofs.Common.{◌≡◌}
use Rattle.pg_config.specs.Overrides.{with_row}
use Rattle.pg_config.proofs.lines.put_horizontals.Given as goal

abbrev pub invariant-loop-col : goal.invariant-loop-col
invariant-loop-col g l = record {
  now : l.horizontals.now ≡ with_row l.row l.col (λ c. l.glyph) l.initial.horizontals.now;
  before : l.horizontals.before ≡ l.initial.horizontals.before;
}
