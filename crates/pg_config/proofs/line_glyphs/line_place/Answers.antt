use Rattle.std.proofs.Common.{ap, ◌∙◌, arith}
use Rattle.std.specs.Int.{from_bool}
use Rattle.pg_config.proofs.EqualLines.{at_crossing, at_glyph, step, behind_all}
use Rattle.pg_config.proofs.line_glyphs.line_place.Goals as goal

pub returns-then-rest-line : goal.returns-then-rest-line
returns-then-rest-line g c =
    at_crossing c.args.config.now c.args.columns (g.D.Dimension.width c.args.dimension.now) c.args.k c.loop-column.rest c.loop-column.column c.from-line.result c.ranges.k.fits c.loop-column.invariant (c.from-line.ensures ∙ ap from_bool c.has_line_before.ensures) c.loop-column-test.true c.if-rest-line.true

pub returns-then-number-width : goal.returns-then-number-width
returns-then-number-width g c =
    at_glyph c.args.config.now c.args.columns (g.D.Dimension.width c.args.dimension.now) c.args.k c.loop-column.rest c.loop-column.column c.from-line.result c.get_width-width.result c.ranges.k.fits c.loop-column.invariant (c.from-line.ensures ∙ ap from_bool c.has_line_before.ensures) c.loop-column-test.true (omega (arith, c.if-rest-line.false)) c.get_width-width.ensures c.if-number-width.true

pub loop-column-preserved : goal.loop-column-preserved
loop-column-preserved g c =
    step c.args.config.now c.args.columns (g.D.Dimension.width c.args.dimension.now) c.args.k c.loop-column.rest c.loop-column.column c.from-line.result c.get_width-width.result c.loop-column.invariant (c.from-line.ensures ∙ ap from_bool c.has_line_before.ensures) (omega (arith, c.if-rest-line.false)) c.get_width-width.ensures (omega (arith, c.if-number-width.false))

pub returns : goal.returns
returns g c =
    behind_all c.args.config.now c.args.columns (g.D.Dimension.width c.args.dimension.now) c.args.k c.loop-column.rest c.loop-column.column c.ranges.k.fits c.loop-column.invariant (omega (arith, c.loop-column.auto.column-end, c.loop-column-test.false))
