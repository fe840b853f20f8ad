use Rattle.std.proofs.Common.{◌≡◌, ◌++◌, map, length}
use Rattle.csv.specs.Records.{fields_of}
use Rattle.ruled_json.specs.Streamed.{columns_in, padded}
use Rattle.ruled_json.proofs.line_table.LineTable.push_held.Given as goal

abbrev pub invariant-loop-row : goal.invariant-loop-row
invariant-loop-row l =
    map fields_of l.rows.items ≡ map fields_of l.initial.rows.items ++ map (padded (length (columns_in l.self))) (map fields_of l.yielded)
