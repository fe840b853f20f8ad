use Rattle.std.proofs.Common.{◌≡◌, ℕ, ◌+◌, ◌*◌, ◌/◌, ◌^◌, ◌<◌, ◌≤◌, sym, ap, arith}
use Rattle.sqlite_sql.specs.Spelling as spec
use Rattle.fast_float.specs.Powers.{power_num, power_den}
use Rattle.ruled_database.proofs.float.power.Goals as goal

quotient : (t n d : ℕ) → t * d ≤ n → n < (t + 1) * d → n / d ≡ t
quotient t n d from below = grind arith

pub returns : goal.returns
unfolding spec.power
returns c = ap (λ t. t / 2 ^ 64) (sym (quotient _ (power_num c.args.row) (power_den c.args.row) c.power_of_ten.ensures.from c.power_of_ten.ensures.below))
