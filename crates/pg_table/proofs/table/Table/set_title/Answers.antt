use Rattle.std.proofs.Common.{sym, ap, ◌∙◌}
use Rattle.pg_table.specs.declared.sizes.Axis.TheVariants.{Columns}
use Rattle.pg_table.specs.OwnRows.{own_sizes, titled_at}
use Rattle.pg_table.proofs.StraightTables.{titled-natural}
use Rattle.pg_table.proofs.table.Table.set_title.Goals as goal

pub returns-in-Ok-clause-ok : goal.returns-in-Ok-clause-ok
returns-in-Ok-clause-ok g c =
    c.in-Ok.ensures.ok
    ∙ ap (λ widths. titled_at c.args.row c.args.side c.args.title.now widths c.args.self.now) c.in_ok-dimension.ensures.widths
    ∙ sym (titled-natural c.args.row c.args.side c.args.self.now g.T.AsStr.text c.args.title.now)

pub returns-in-None-clause-ok : goal.returns-in-None-clause-ok
returns-in-None-clause-ok g c =
    sym (titled-natural c.args.row c.args.side c.args.self.now g.T.AsStr.text c.args.title.now
    ∙ c.shows_title.ensures.same c.if-not-shows_title.true c.args.side (own_sizes Columns g.T.AsStr.text c.args.self.now))
