use Rattle.std.proofs.Common.{arith}
use Rattle.pg_table.proofs.ListedSizes.{all_fit-listed}
use Rattle.pg_table.proofs.measured.are_numbers.Goals as goal

pub returns : goal.returns
returns c = all_fit-listed c.args.sizes.now (λ k. omega (arith, c.type_inv.sizes k))
