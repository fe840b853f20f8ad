use Rattle.std.proofs.Common.{◌≡◌, ◌∙◌, ℕ, ◌/◌, ◌%◌, ap, sym, arith}
use Rattle.sqlite_sql.specs.Spelling as spec
use Rattle.ruled_database.proofs.Tabling.{front_less, run_ends, run_more}
use Rattle.ruled_database.proofs.float.Digits.run_from.Goals as goal

pub run-preserved : goal.run-preserved
run-preserved c =
    let number = c.args.self.number in
    let l = c.run in
    let same : l.front % 10 ≡ c.args.of = omega arith in
    record {
      run = run_more number c.args.of l.start l.front (omega arith) l.invariant.front same ∙ l.invariant.run;
      within = omega (arith, l.invariant.within);
      front = ap (λ (f : ℕ). f / 10) l.invariant.front ∙ front_less number l.start (omega arith) (omega (arith, l.invariant.within, c.args.self.counted, c.args.self.enough));
      small = omega (arith, l.invariant.small);
    }

pub returns-then-front-of-clause-start : goal.returns-then-front-of-clause-start
returns-then-front-of-clause-start c =
    let l = c.run in
    run_ends c.args.self.number c.args.of l.start l.front (omega arith) l.invariant.front (λ same. omega (arith, same)) ∙ l.invariant.run

pub returns-clause-start : goal.returns-clause-start
returns-clause-start c =
    let l = c.run in
    let none : l.start ≡ 0 = omega arith in
    none ∙ ap (spec.run_from c.args.self.number c.args.of) (sym none) ∙ l.invariant.run
