use Rattle.std.proofs.Common.{ap, subst}
use Rattle.pg_config.specs.Config.{Config}
use Rattle.pg_table.specs.OwnRows.{texts_of, HasPointsAligned}
use Rattle.pg_table.specs.Printing.{Parts}
use Rattle.pg_table.proofs.StraightTables.{told-points}
use Rattle.pg_table.proofs.table.Table.with_points_aligned.Goals as goal

pub returns-in-Ok-clause-points : goal.returns-in-Ok-clause-points
returns-in-Ok-clause-points g c = λ there. subst (λ (t : Parts _). HasPointsAligned (texts_of g.T.AsStr.text t) c.args.from c.args.column t.config c.align_points.new.config) c.self.view_is c.in-Ok.ensures

pub returns-in-Ok-clause-narrow : goal.returns-in-Ok-clause-narrow
returns-in-Ok-clause-narrow g c = λ look.
    let was = rw (← c.self.view_is) at look in
    told-points _ was _ _ _ _ c.in-Ok.ensures
