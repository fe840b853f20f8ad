use Rattle.std.proofs.Common.{◌≡◌, arith}
use Rattle.pg_table.proofs.Setters.{line-more, line-last, weaker}
use Rattle.pg_table.proofs.table.lines.Frame.draw_line.Goals as goal

pub loop-place-preserved : goal.loop-place-preserved
loop-place-preserved g c = line-more c.args.self.now c.args.axis c.args.line c.loop-place.place c.args.config.now c.loop-place.config c.loop-place.invariant c.place_on.result c.place_on.ensures c.draw.new.config c.in_ok-draw.ensures

pub returns : goal.returns
returns g c =
    let last : c.loop-place.place ≡ c.args.count = omega arith in
    weaker c.draw-2.result (λ is. line-last c.args.self.now c.args.axis c.args.line c.args.count c.args.config.now c.loop-place.config (rw last at c.loop-place.invariant) c.place_on-2.result c.place_on-2.ensures c.draw-2.new.config is) c.draw-2.ensures
