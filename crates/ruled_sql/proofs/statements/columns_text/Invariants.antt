use Rattle.std.proofs.Common.{◌≡◌, map, string_bytes}
use Rattle.std.specs.List.{range_with_len}
use Rattle.csv.specs.Records.{fields_of}
use Rattle.ruled_sql.specs.Filled.{column_text}
use Rattle.ruled_sql.proofs.statements.columns_text.Given as goal

abbrev pub invariant-loop-place : goal.invariant-loop-place
invariant-loop-place l = map string_bytes l.columns.items ≡ map (column_text (fields_of l.names) (map fields_of l.records)) (range_with_len 0 l.place)
