use Rattle.std.proofs.Common.{◌∷◌, ◌++◌, ℕ, List, [], OnOk, map, subst}
use Rattle.csv.specs.Records.{fields_of}
use Rattle.ruled_json.specs.Faults.{Tells}
use Rattle.ruled_json.specs.Streamed.{AppendsRest, HasLines, ended_table, fault_behind}
use Rattle.ruled_json.specs.Rows.{records_on}
use Rattle.ruled_json.proofs.line_reader.LineReader.read_line.Goals as goal

pub returns-clause-read : goal.returns-clause-read
returns-clause-read c = λ k above has.
    subst (λ (line : List ℕ). OnOk c.read.result (HasLines k (above ++ line ∷ []) c.read.new.self)) c.line_text-text.ensures (c.read.ensures.read k above has)

pub returns-clause-rows : goal.returns-clause-rows
returns-clause-rows c = λ k above has.
    subst (λ (line : List ℕ). OnOk c.read.result
    (AppendsRest (ended_table k (records_on k.members above)) (ended_table k (records_on k.members (above ++ line ∷ []))) (map fields_of c.args.rows.now.items) (map fields_of c.read.new.rows.items)))
    c.line_text-text.ensures (c.read.ensures.rows k above has)

pub returns-clause-fault : goal.returns-clause-fault
returns-clause-fault c = λ k above has.
    subst (λ (line : List ℕ). Tells (fault_behind k above line) c.read.result) c.line_text-text.ensures (c.read.ensures.fault k above has)
