use Rattle.pg_config.proofs.EqualLines.{Stands}
use Rattle.pg_config.proofs.line_glyphs.line_place.Given as goal

-- no column that was passed ends behind k
abbrev pub invariant-loop-column : goal.invariant-loop-column
invariant-loop-column g l = Stands l.config l.columns (g.D.Dimension.width l.dimension) l.k l.rest l.column
