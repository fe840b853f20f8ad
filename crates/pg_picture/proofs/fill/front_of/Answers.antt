use Rattle.std.proofs.Common.{ℕ, sym, ◌*◌, ap, subst, ◌∙◌}
use Rattle.std.specs.Str.{IsCharBoundary}
use Rattle.std.specs.List.{slice_range}
use Rattle.pg_picture.proofs.PiecesOfLines.{repeated-boundary, repeated-front}
use Rattle.pg_picture.proofs.fill.front_of.Goals as goal

pub range-requires-clause-end_boundary : goal.range-requires-clause-end_boundary
range-requires-clause-end_boundary c = let P : ℕ → Type 0 = λ w. IsCharBoundary c.args.block.now (c.args.count * w) in subst P (sym c.len_utf8.ensures.len) (repeated-boundary c.args.c c.args.count 64 c.args.block.now c.ranges.c.0 c.requires.few c.requires.block)

pub returns : goal.returns
returns c = c.range.ensures.value ∙ ap (λ w. slice_range c.args.block.now 0 (c.args.count * w)) c.len_utf8.ensures.len ∙ repeated-front c.args.c c.args.count 64 c.args.block.now c.requires.few c.requires.block
