use Rattle.std.proofs.Common.{◌≢◌, ◌<◌, length, arith, below_more, get_or-set_other, get_or-set_same, length-set, ◌∙◌, ap}
use Rattle.pg_layout.specs.declared.position.Position.{Position}
use Rattle.pg_layout.specs.declared.alignment.AlignmentHorizontal.TheVariants.{Left}
use Rattle.pg_config.specs.Config.{get_alignment_horizontal}
use Rattle.pg_picture.proofs.column_sides.ColumnSides.of.Goals as goal

pub loop-column-preserved : goal.loop-column-preserved
loop-column-preserved g c =
    let kept = c.loop-column.invariant in
    let lt : c.loop-column.column < length c.loop-column.first = omega (arith, kept.0) in
    let here = get_or-set_same c.loop-column.first c.loop-column.column c.get_alignment_horizontal.result Left lt in
    let found = c.get_alignment_horizontal.ensures ∙ ap (λ (p : Position). get_alignment_horizontal c.args.config.now p) c.new.ensures in
    (length-set _ _ _ ∙ kept.0, below_more _ _ (λ k h. let ne : k ≢ c.loop-column.column = omega arith in rw get_or-set_other (kept.1 k h)) (here ∙ found))
