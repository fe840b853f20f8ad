use Rattle.std.proofs.Common.{subst, sym}
use Rattle.pg_config.specs.Config.{Config}
use Rattle.pg_table.specs.Even.{IsNarrowLook}
use Rattle.pg_table.proofs.StraightTables.{told-spaced}
use Rattle.pg_table.proofs.table.Table.beside.Goals as goal

pub returns-clause-narrow : goal.returns-clause-narrow
returns-clause-narrow g c = c.with_config.ensures.narrow (subst (λ (config : Config). IsNarrowLook config) (sym c.in_ok-config.ensures) (told-spaced c.args.gap))
