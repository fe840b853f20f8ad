use Rattle.std.proofs.Common.{sym, ◌∙◌}
use Rattle.ruled_io.proofs.Fronts.{apart-shows, half-shows, lower-shows, pair-shows}
use Rattle.ruled_io.proofs.encoding.first_of_pair.Goals as goal

pub returns-in_default : goal.returns-in_default
returns-in_default c = λ first second is. half-shows c.args.order c.args.high c.requires.from c.requires.below first second is c.args.rest.now c.in_default.len_below c.if-high-lt56320.true

pub returns-in_default-2 : goal.returns-in_default-2
returns-in_default-2 c = λ first second is. lower-shows c.args.order c.args.high c.requires.from c.requires.below first second is c.args.rest.now c.if-high-lt56320.false

pub returns-in-Some : goal.returns-in-Some
returns-in-Some c = λ first second is.
    pair-shows c.args.order c.args.high c.requires.from c.requires.below first second is c.args.rest.now c.unit.result c.in-len2-up.len_at_least c.unit.ensures.unit c.in-Some.c (sym c.in-Some.is ∙ c.pair_char.ensures)

pub returns-in-None : goal.returns-in-None
returns-in-None c = λ first second is.
    apart-shows c.args.order c.args.high c.requires.from c.requires.below first second is c.args.rest.now c.unit.result c.in-len2-up.len_at_least c.unit.ensures.unit (sym c.in-None.is ∙ c.pair_char.ensures)
