use Rattle.std.proofs.Common.{◌≡◌, ◌+◌, ◌-◌, ◌++◌}
use Rattle.pg_config.specs.LineGlyphs.{line_place, over_columns}
use Rattle.pg_config.proofs.line_glyphs.over_columns.Given as goal

-- what is left follows what is there
abbrev pub invariant-loop-i : goal.invariant-loop-i
invariant-loop-i g l =
    l.over.items ++ over_columns (line_place l.config l.columns (g.D.Dimension.width l.dimension)) (l.first + l.i) (l.count - l.i) l.color
    ≡ over_columns (line_place l.config l.columns (g.D.Dimension.width l.dimension)) l.first l.count l.color
