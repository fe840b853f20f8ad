use Rattle.std.proofs.Common.{◌≡◌, []}
use Rattle.pg_config.specs.Inside.{with_all}
use Rattle.pg_config.specs.Overrides.{HasColumns}
use Rattle.pg_config.proofs.lines.put_all.Given as goal

-- what is left is told by the glyphs that are left
abbrev pub invariant-loop-pos : goal.invariant-loop-pos
invariant-loop-pos g l = record {
  now : with_all l.pos-iterator l.crossings.now ≡ with_all l.glyphs l.initial.crossings.now;
  has_columns : HasColumns l.columns.now l.crossings.now;
  before : l.crossings.before ≡ l.initial.crossings.before;
  before_columns : l.columns.before ≡ l.initial.columns.before;
  nothing : l.glyphs ≡ [] → l.pos-iterator ≡ [];
}
