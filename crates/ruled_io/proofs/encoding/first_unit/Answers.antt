use Rattle.ruled_io.proofs.Fronts.{in-range, part-shows, scalar-shows}
use Rattle.ruled_io.proofs.encoding.first_unit.Goals as goal

pub returns-in_default : goal.returns-in_default
returns-in_default c = part-shows c.args.order c.args.bytes.now c.in_default.len_below

pub returns-in-Some : goal.returns-in-Some
returns-in-Some c =
    scalar-shows c.args.order c.args.bytes.now c.unit-unit.result c.in-Some.c c.in-len2-up.len_at_least c.unit-unit.ensures.unit (in-range c.unit-unit.result c.in-Some.ensures.cases) c.in-Some.ensures.value.1
