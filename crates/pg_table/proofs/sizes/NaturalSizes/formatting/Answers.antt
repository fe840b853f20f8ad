use Rattle.std.proofs.Common.{ap}
use Rattle.pg_config.specs.Cells.{Style, style_at}
use Rattle.pg_table.proofs.sizes.NaturalSizes.formatting.Goals as goal

pub returns-in-Some : goal.returns-in-Some
unfolding style_at
returns-in-Some g c = ap (λ (s : Style). s.formatting) (c.args.self.now.is_of_all c.in-Some.style c.in-Some.is c.args.pos)
