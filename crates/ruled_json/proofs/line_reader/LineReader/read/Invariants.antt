use Rattle.std.proofs.Common.{◌≡◌, ◌++◌, ℕ, List, length, map}
use Rattle.csv.specs.Records.{fields_of}
use Rattle.ruled_json.specs.Streamed.{AppendsRest, HasRead, LineRules, ended_line_rows}
use Rattle.ruled_json.proofs.line_reader.LineReader.read.Given as goal

-- the bytes that are read are those in front of the rest
abbrev pub invariant-loop-line : goal.invariant-loop-line
invariant-loop-line l =
    (done : List ℕ)
    × (l.bytes ≡ done ++ l.rest)
    × ((k : LineRules) (before : List ℕ) → HasRead k before l.fn.self
    → HasRead k (before ++ done) l.reader
    × AppendsRest (ended_line_rows k before) (ended_line_rows k (before ++ done)) (map fields_of l.initial.rows.items) (map fields_of l.rows.items))

abbrev pub decreases-loop-line : goal.decreases-loop-line
decreases-loop-line l = length l.rest
