use Rattle.std.proofs.Common.{◌≡◌, map, take}
use Rattle.csv.specs.Records.{fields_of}
use Rattle.ruled_sql.specs.Answers.{shown_rows}
use Rattle.ruled_sql.proofs.rows.rows_in.Given as goal

abbrev pub invariant-loop-values : goal.invariant-loop-values
invariant-loop-values l = map fields_of l.rows.items ≡ shown_rows l.null l.names (take l.values-index l.answer)
