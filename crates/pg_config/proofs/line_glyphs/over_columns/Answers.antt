use Rattle.std.proofs.Common.{rules, ◌+◌, ◌-◌, ◌++◌, ap, ◌∙◌, arith}
use Rattle.pg_config.specs.LineGlyphs.{line_place, over_columns}
use Rattle.pg_config.proofs.EqualLines.{columns-all, columns-more, columns-past}
use Rattle.pg_config.proofs.line_glyphs.over_columns.Goals as goal

pub returns-then-is_none : goal.returns-then-is_none
returns-then-is_none g c =
    let f = line_place c.args.config.now c.args.columns (g.D.Dimension.width c.args.dimension.now) in
    record { over = columns-past f c.args.color.now c.loop-i.over.items c.args.first c.loop-i.i c.args.count c.place_over-place.result c.place_over-place.ensures (search rules) ∙ c.loop-i.invariant }

pub loop-i-preserved : goal.loop-i-preserved
loop-i-preserved g c =
    let f = line_place c.args.config.now c.args.columns (g.D.Dimension.width c.args.dimension.now) in
    ap (λ items. items ++ over_columns f (c.args.first + (c.loop-i.i + 1)) (c.args.count - (c.loop-i.i + 1)) c.args.color.now) c.in_ok-push.ensures.items
    ∙ columns-more f c.args.color.now c.loop-i.over.items c.args.first c.loop-i.i c.args.count c.place_over-place.result c.in_ok-color.color c.loop-i-test.true c.place_over-place.ensures (search rules) (search rules)
    ∙ c.loop-i.invariant

pub returns : goal.returns
returns g c =
    let f = line_place c.args.config.now c.args.columns (g.D.Dimension.width c.args.dimension.now) in
    record { over = columns-all f c.args.color.now c.loop-i.over.items c.args.first c.loop-i.i c.args.count (omega (arith, c.loop-i-test.false)) ∙ c.loop-i.invariant }
