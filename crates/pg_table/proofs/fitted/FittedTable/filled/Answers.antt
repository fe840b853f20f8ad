use Rattle.pg_picture.specs.Table.{Table}
use Rattle.pg_table.specs.Fitted.{printed_fitted_table}
use Rattle.pg_table.proofs.Filled.{lines-full}
use Rattle.pg_table.proofs.fitted.FittedTable.filled.Goals as goal

pub returns-clause-exact : goal.returns-clause-exact
returns-clause-exact g c = λ some inside. lines-full (printed_fitted_table g.R.Records.texts g.R.Records.columns g.C.Colors.color c.args.self) c.args.width c.args.column some inside
