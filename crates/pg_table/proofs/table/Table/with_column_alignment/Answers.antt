use Rattle.std.proofs.Common.{◌≡◌}
use Rattle.pg_layout.specs.declared.position.Entity.TheVariants.{Column}
use Rattle.pg_table.specs.Even.{IsNarrowLook}
use Rattle.pg_table.specs.OwnRows.{aligned}
use Rattle.pg_table.proofs.Setters.{left, set}
use Rattle.pg_table.proofs.table.Table.with_column_alignment.Goals as goal

pub returns-clause-ok : goal.returns-clause-ok
returns-clause-ok g c = set c.set_column_alignment-set.result c.if_set.result c.set_column_alignment-set.new.self (λ t. t ≡ aligned (Column c.args.column) c.args.alignment c.args.self) c.if_set.ensures.set c.set_column_alignment-set.ensures.ok c.if_set.ensures.same

pub returns-clause-narrow : goal.returns-clause-narrow
returns-clause-narrow g c = λ look. left c.if_set.result c.set_column_alignment-set.new.self (λ t. IsNarrowLook t.config) (c.set_column_alignment-set.ensures.narrow look) c.if_set.ensures.same
