use Rattle.std.proofs.Common.{◌≡◌}
use Rattle.std.specs.Vec.Iter.{into_iter_items}
use Rattle.pg_config.specs.LineGlyphs.{with_glyphs, with_line_crossings}
use Rattle.pg_config.specs.Overrides.{HasColumns}
use Rattle.pg_config.proofs.line_glyphs.put_over.Given as goal

-- what is left is told by the values that are left
abbrev pub invariant-loop-place : goal.invariant-loop-place
invariant-loop-place g l = record {
  glyphs : with_glyphs l.row (into_iter_items l.place-iterator) l.glyphs.now ≡ with_glyphs l.row l.fn.over.items l.initial.glyphs.now;
  crossings : with_line_crossings l.row (into_iter_items l.place-iterator) l.crossings.now ≡ with_line_crossings l.row l.fn.over.items l.initial.crossings.now;
  has_columns : HasColumns l.columns.now l.crossings.now;
  before : l.glyphs.before ≡ l.initial.glyphs.before;
  before_crossings : l.crossings.before ≡ l.initial.crossings.before;
  before_columns : l.columns.before ≡ l.initial.columns.before;
}
