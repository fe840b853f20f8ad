use Rattle.std.proofs.Common.{◌≡◌, []}
use Rattle.pg_config.specs.Inside.{with_glyphs}
use Rattle.pg_config.proofs.crossings.glyphs_of.Given as goal

-- what is left is told by the marks that are left
abbrev pub invariant-loop-pos : goal.invariant-loop-pos
invariant-loop-pos g l = record {
  glyphs : with_glyphs l.config l.borders l.size.0 l.size.1 l.pos-iterator l.glyphs ≡ with_glyphs l.config l.borders l.size.0 l.size.1 l.marks [];
  nothing : l.marks ≡ [] → l.pos-iterator ≡ [];
}
