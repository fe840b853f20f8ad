use Rattle.std.proofs.Common.{pow-suc, ℕ, ◌^◌, ◌<◌, ◌≤◌, arith, rules, suc, zero}
use Rattle.std.proofs.Math.Nat.{pow-le-pow_right}
use Rattle.ruled_database.proofs.float.ten_to.Goals as goal

some : (k : ℕ) → 0 < 10 ^ k
some zero = omega arith
some (suc k) = omega (arith, some k, pow-suc 10 k)

pub returns-clause-some : goal.returns-clause-some
returns-clause-some c = omega (arith, c.loop-turn.invariant, some c.loop-turn._turn)

pub overflow_mul-power : goal.overflow_mul-power
overflow_mul-power c =
    let within : c.loop-turn._turn ≤ 18 = omega arith in
    let most : 10 ^ c.loop-turn._turn ≤ 10 ^ 18 = pow-le-pow_right {n = 10} (omega arith) within in
    let small : c.loop-turn.power ≤ 10 ^ 18 = omega (arith, c.loop-turn.invariant, most) in first_of (omega (arith, small), search rules)
