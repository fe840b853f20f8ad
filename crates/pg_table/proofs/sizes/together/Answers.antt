use Rattle.std.proofs.Common.{◌+◌, ap, sym, ◌∙◌, arith}
use Rattle.pg_picture.specs.Sizes.{if_fits}
use Rattle.pg_picture.proofs.Ranges.{if_fits-past}
use Rattle.pg_table.proofs.ListedSizes.{none-past, some-below}
use Rattle.pg_table.proofs.sizes.together.Goals as goal

pub returns-in-Some : goal.returns-in-Some
returns-in-Some c = λ n m sum size. c.plus.ensures n sum ∙ ap (λ k. if_fits (n + k)) (some-below m c.in-Some.size (sym c.in-Some.is ∙ size)).0

pub returns-in-None : goal.returns-in-None
returns-in-None c = λ n m sum size. sym (if_fits-past (n + m) (omega (arith, none-past m (sym c.in-None.is ∙ size))))
