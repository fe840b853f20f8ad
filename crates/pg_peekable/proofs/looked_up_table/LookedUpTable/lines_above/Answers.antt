use Rattle.std.proofs.Common.{◌≡◌, ◌+◌, ◌-◌, ℕ, refl, subst, arith}
use Rattle.pg_picture.specs.Inside.{rows_height}
use Rattle.pg_peekable.proofs.CanDraw.{lines-more, lines-fit}
use Rattle.pg_peekable.proofs.looked_up_table.LookedUpTable.lines_above.Goals as goal

pub loop-above-init : goal.loop-above-init
loop-above-init g c = c.args.known.is.above

pub overflow_add-lines : goal.overflow_add-lines
overflow_add-lines g c =
    let t = g.T.TableMarker.table in
    let more = lines-more t c.args.self.now.can c.args.known.rectangle.corner.row c.loop-above.above (omega (arith, c.args.known.is.begun, c.loop-above.auto.above)) c.loop-above.invariant c.height_of.ensures refl c.separators_at.ensures in
    let fit = lines-fit t c.args.self.now.can c.args.known.rectangle.corner.row (c.loop-above.above + 1) (omega (arith, c.args.known.is.begun, c.loop-above.auto.above)) (omega (arith, c.requires.row.row, c.loop-above-test.true)) in
    omega (arith, more, fit)

pub overflow_add-lines-in-loop-above : goal.overflow_add-lines-in-loop-above
overflow_add-lines-in-loop-above g c =
    let t = g.T.TableMarker.table in
    let more = lines-more t c.args.self.now.can c.args.known.rectangle.corner.row c.loop-above.above (omega (arith, c.args.known.is.begun, c.loop-above.auto.above)) c.loop-above.invariant c.height_of.ensures refl c.separators_at.ensures in
    let fit = lines-fit t c.args.self.now.can c.args.known.rectangle.corner.row (c.loop-above.above + 1) (omega (arith, c.args.known.is.begun, c.loop-above.auto.above)) (omega (arith, c.requires.row.row, c.loop-above-test.true)) in
    omega (arith, more, fit)

pub loop-above-preserved : goal.loop-above-preserved
loop-above-preserved g c =
    let t = g.T.TableMarker.table in
    lines-more t c.args.self.now.can c.args.known.rectangle.corner.row c.loop-above.above (omega (arith, c.args.known.is.begun, c.loop-above.auto.above)) c.loop-above.invariant c.height_of.ensures refl c.separators_at.ensures

pub returns : goal.returns
returns g c =
    let t = g.T.TableMarker.table in
    let end : c.loop-above.above ≡ c.args.row = omega (arith, c.loop-above.auto.above-end c.requires.row.first, c.loop-above-test.false) in
    subst (λ (r : ℕ). c.loop-above.lines ≡ rows_height t c.args.known.rectangle.corner.row (r - c.args.known.rectangle.corner.row)) end c.loop-above.invariant
