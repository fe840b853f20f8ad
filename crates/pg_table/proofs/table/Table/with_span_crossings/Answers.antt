use Rattle.std.proofs.Common.{◌≡◌}
use Rattle.pg_table.specs.OwnRows.{crossed}
use Rattle.pg_table.proofs.Setters.{set}
use Rattle.pg_table.proofs.table.Table.with_span_crossings.Goals as goal

pub returns-clause-ok : goal.returns-clause-ok
returns-clause-ok g c = set c.set_span_crossings-set.result c.if_set.result c.set_span_crossings-set.new.self (λ t. t ≡ crossed c.args.borders c.args.self) c.if_set.ensures.set c.set_span_crossings-set.ensures.ok c.if_set.ensures.same
