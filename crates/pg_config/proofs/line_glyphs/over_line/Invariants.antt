use Rattle.std.proofs.Common.{◌≡◌, ◌+◌, ◌++◌, drop, vec_len}
use Rattle.pg_config.specs.LineGlyphs.{line_place, over_line}
use Rattle.pg_config.proofs.line_glyphs.over_line.Given as goal

-- what is left follows what is there
abbrev pub invariant-loop-glyph : goal.invariant-loop-glyph
invariant-loop-glyph g l = record {
  over : l.over.items ++ over_line (line_place l.config l.columns (g.D.Dimension.width l.dimension)) (l.first + l.glyph-index) (drop l.glyph-index l.glyphs) ≡ over_line (line_place l.config l.columns (g.D.Dimension.width l.dimension)) l.first l.glyphs;
  len : vec_len l.over ≡ l.glyph-index;
}
