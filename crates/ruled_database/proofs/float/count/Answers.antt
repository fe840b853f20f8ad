use Rattle.std.proofs.Common.{ℕ, ◌+◌, ◌/◌, ◌%◌, ◌^◌, ◌<◌, ◌≤◌, [], ◌∷◌, length, ap, arith, rules, length-append}
use Rattle.sqlite_sql.specs.Spelling as spec
use Rattle.std.specs.Fmt.{decimal}
use Rattle.std.proofs.lemmas.Fmt.{decimal_digit, decimal_step, length-decimal-le}
use Rattle.ruled_database.proofs.float.count.Goals as goal

at_most : (n : ℕ) → n < 2 ^ 64 → spec.count n ≤ 20
at_most n h = length-decimal-le 20 n (omega arith) (omega arith) h

pub overflow_add-count : goal.overflow_add-count
overflow_add-count c = let most = at_most c.args.number c.ranges.number.fits in let small : c.digits.count ≤ 21 = omega (arith, c.digits.invariant) in search rules

pub digits-preserved : goal.digits-preserved
digits-preserved c =
    let left = c.digits.left in
    omega (arith, c.digits.invariant, ap length (decimal_step left (omega arith) (omega arith)), length-append (decimal (left / 10)) ((48 + left % 10) ∷ []))

pub returns-clause-value : goal.returns-clause-value
returns-clause-value c = omega (arith, c.digits.invariant, ap length (decimal_digit c.digits.left (omega arith)))

pub returns-clause-most : goal.returns-clause-most
returns-clause-most c = omega (arith, c.digits.invariant, ap length (decimal_digit c.digits.left (omega arith)), at_most c.args.number c.ranges.number.fits)
