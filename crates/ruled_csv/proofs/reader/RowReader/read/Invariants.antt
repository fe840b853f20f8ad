use Rattle.std.proofs.Common.{ℕ, ◌≤◌, ◌-◌, List, ◌++◌, length, map, take}
use Rattle.csv.specs.Records.{fields_of}
use Rattle.ruled_csv.specs.Reading.{AppendsRest, HasRead}
use Rattle.ruled_csv.specs.Rows.{ended_rows}
use Rattle.ruled_csv.specs.declared.dialect.Dialect.{Dialect}
use Rattle.ruled_csv.proofs.reader.RowReader.read.Given as goal

abbrev pub invariant-loop-at : goal.invariant-loop-at
invariant-loop-at l = (l.at ≤ length l.bytes) × ((dialect : Dialect) (before : List ℕ) → HasRead dialect before l.fn.self
    → HasRead dialect (before ++ take l.at l.bytes) l.reader
    × AppendsRest (ended_rows dialect before) (ended_rows dialect (before ++ take l.at l.bytes)) (map fields_of l.fn.rows.items) (map fields_of l.rows.items))

abbrev pub decreases-loop-at : goal.decreases-loop-at
decreases-loop-at l = length l.bytes - l.at
