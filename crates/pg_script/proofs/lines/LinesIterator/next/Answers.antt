use Rattle.std.proofs.Common.{arith, ◌<◌, length, sym, ap}
use Rattle.std.proofs.lemmas.Bool.Decides.{nat_tests}
use Rattle.pg_script.proofs.LineWords.{lines-read, lines-not_found}
use Rattle.pg_script.proofs.lines.LinesIterator.next.Goals as goal

pub returns-in-Some-clause-steps : goal.returns-in-Some-clause-steps
returns-in-Some-clause-steps c =
    lines-read c.args.self.now.rest.now c.in-Some.end c.without_carriage_return.result.now (sym c.in-Some.ensures) c.without_carriage_return.ensures

pub returns-in-Some-clause-goes : goal.returns-in-Some-clause-goes
returns-in-Some-clause-goes c = record { on = λ fin. (tt, tt, omega (arith, ap length (returns-in-Some-clause-steps c))); keeps = tt; rests = λ fin. tt }

pub returns-in-None-clause-steps : goal.returns-in-None-clause-steps
returns-in-None-clause-steps c =
    let some : 0 < length c.args.self.now.rest.now = grind (arith, nat_tests) in
    lines-not_found c.args.self.now.rest.now some (sym c.in-None.ensures)

pub returns-in-None-clause-goes : goal.returns-in-None-clause-goes
returns-in-None-clause-goes c = record { on = λ fin. (tt, tt, omega (arith, ap length (returns-in-None-clause-steps c))); keeps = tt; rests = λ fin. tt }
