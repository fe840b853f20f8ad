use Rattle.std.proofs.Common.{map}
use Rattle.ruled_sql.specs.Filled.{table_of}
use Rattle.ruled_sql.proofs.Filling.{misses-by}
use Rattle.ruled_sql.proofs.filled.misses_one.Goals as goal

pub returns-clause-misses : goal.returns-clause-misses
returns-clause-misses c = misses-by (map table_of c.args.tables.now) c.args.query.now c.in-Ok.connection c.in-Ok.ensures.filled c.in_ok-lacks_table.field-0 c.in_ok-lacks_table.ensures
