use Rattle.std.proofs.Common.{◌<◌, ◌≤◌, ◌+◌, ◌-◌, ◌^◌, length, refl, sym, arith}
use Rattle.ruled_row.proofs.RowFacts.{start_first, start_next}
use Rattle.ruled_row.proofs.ends.part_of.Goals as goal

pub returns-then-field-eq0 : goal.returns-then-field-eq0
returns-then-field-eq0 c = (omega arith, omega arith, start_first c.args.ends.now c.args.field c.if-field-eq0.true, refl)

pub returns-else-field-eq0 : goal.returns-else-field-eq0
returns-else-field-eq0 c = (omega arith, omega arith, start_next c.args.ends.now c.args.field c.if-field-eq0.false (omega arith), refl)
