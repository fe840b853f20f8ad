use Rattle.std.proofs.Common.{◌≡◌, ◌∙◌, ◌∷◌, ◌++◌, ℕ, List, [], Global, Vec, ap, arith, map, sym}
use Rattle.std.proofs.lemmas.Bool.{eqb-true}
use Rattle.std.proofs.lemmas.List.{nil_from_length}
use Rattle.csv.specs.Records.{fields_of}
use Rattle.ruled_json.specs.Streamed.{AppendsRest, HasLines, HasRead, without_front, ended_line_rows, ended_lines, ended_table, fault_behind, sound_line_rows, streamed_line_fault, streamed_table}
use Rattle.ruled_json.specs.Rows.{records_on}
use Rattle.ruled_json.proofs.StreamedLines.{fault-is, read-more, rows-above, rows-more, foretold, on-fault, on-ok}
use Rattle.ruled_json.proofs.line_reader.LineReader.end_line.Goals as goal

pub returns-then-is_empty-clause-read : goal.returns-then-is_empty-clause-read
returns-then-is_empty-clause-read c = λ k before has.
    let t = c.args.self.now in
    let bytes = c.args.bytes.now in
    let text = c.args.bytes.now in
    let new = c.read_line.new.self in
    let above = ended_lines before in
    let line = without_front t.is_front text in
    let none = eqb-true c.replace-line.result.len 0 (sym c.is_empty.ensures ∙ c.if-is_empty.true) in
    let gone : c.replace-line.result.items ≡ [] = nil_from_length c.replace-line.result.items (omega (arith, none, c.replace-line.result.ok.0)) in
    let is : text ≡ t.line.items ++ bytes = ap (λ (line : List ℕ). line ++ bytes) (sym gone) ∙ ap (λ (line : Vec ℕ Global). line.items ++ bytes) c.replace-line.ensures.value in
    let empty : new.line.items ≡ [] = ap (λ (l : Vec ℕ Global). l.items) (c.read_line.ensures.kept.0 ∙ c.replace-line.ensures.after) ∙ c.new.ensures.items in
    on-ok c.read_line.result (HasLines k (above ++ line ∷ []) new.table) (HasRead k (before ++ (bytes ++ 10 ∷ [])) new)
    (read-more k before bytes text t has is c.requires.within new empty c.read_line.ensures.kept.1) (c.read_line.ensures.read k above has.table)

pub returns-then-is_empty-clause-rows : goal.returns-then-is_empty-clause-rows
returns-then-is_empty-clause-rows c = λ k before has.
    let t = c.args.self.now in
    let bytes = c.args.bytes.now in
    let text = c.args.bytes.now in
    let new = c.read_line.new.self in
    let above = ended_lines before in
    let line = without_front t.is_front text in
    let none = eqb-true c.replace-line.result.len 0 (sym c.is_empty.ensures ∙ c.if-is_empty.true) in
    let gone : c.replace-line.result.items ≡ [] = nil_from_length c.replace-line.result.items (omega (arith, none, c.replace-line.result.ok.0)) in
    let is : text ≡ t.line.items ++ bytes = ap (λ (line : List ℕ). line ++ bytes) (sym gone) ∙ ap (λ (line : Vec ℕ Global). line.items ++ bytes) c.replace-line.ensures.value in
    let old = map fields_of c.args.rows.now.items in
    let rows = map fields_of c.read_line.new.rows.items in
    on-ok c.read_line.result (AppendsRest (ended_table k (records_on k.members above)) (ended_table k (records_on k.members (above ++ line ∷ []))) old rows)
    (AppendsRest (ended_line_rows k before) (ended_line_rows k (before ++ (bytes ++ 10 ∷ []))) old rows) (rows-more k before bytes text t has is c.requires.within old rows)
    (c.read_line.ensures.rows k above has.table)

pub returns-then-is_empty-clause-fault : goal.returns-then-is_empty-clause-fault
returns-then-is_empty-clause-fault c = λ k before behind has.
    let t = c.args.self.now in
    let bytes = c.args.bytes.now in
    let text = c.args.bytes.now in
    let new = c.read_line.new.self in
    let above = ended_lines before in
    let line = without_front t.is_front text in
    let none = eqb-true c.replace-line.result.len 0 (sym c.is_empty.ensures ∙ c.if-is_empty.true) in
    let gone : c.replace-line.result.items ≡ [] = nil_from_length c.replace-line.result.items (omega (arith, none, c.replace-line.result.ok.0)) in
    let is : text ≡ t.line.items ++ bytes = ap (λ (line : List ℕ). line ++ bytes) (sym gone) ∙ ap (λ (line : Vec ℕ Global). line.items ++ bytes) c.replace-line.ensures.value in
    foretold c.read_line.result (fault_behind k above line) (streamed_line_fault k (before ++ (bytes ++ 10 ∷ behind))) (fault-is k before bytes text t has is c.requires.within behind)
    (c.read_line.ensures.fault k above has.table)

pub returns-then-is_empty-clause-sound : goal.returns-then-is_empty-clause-sound
returns-then-is_empty-clause-sound c = λ k before behind has.
    let t = c.args.self.now in
    let bytes = c.args.bytes.now in
    let text = c.args.bytes.now in
    let new = c.read_line.new.self in
    let above = ended_lines before in
    let line = without_front t.is_front text in
    let none = eqb-true c.replace-line.result.len 0 (sym c.is_empty.ensures ∙ c.if-is_empty.true) in
    let gone : c.replace-line.result.items ≡ [] = nil_from_length c.replace-line.result.items (omega (arith, none, c.replace-line.result.ok.0)) in
    let is : text ≡ t.line.items ++ bytes = ap (λ (line : List ℕ). line ++ bytes) (sym gone) ∙ ap (λ (line : Vec ℕ Global). line.items ++ bytes) c.replace-line.ensures.value in
    let old = map fields_of c.args.rows.now.items in
    let rows = map fields_of c.read_line.new.rows.items in
    on-fault c.read_line.result (fault_behind k above line) (AppendsRest (ended_table k (records_on k.members above)) (streamed_table k (records_on k.members above)) old rows)
    (AppendsRest (ended_line_rows k before) (sound_line_rows k (before ++ (bytes ++ 10 ∷ behind))) old rows)
    (λ fault. rows-above k before bytes text t has is c.requires.within behind fault old rows) (c.read_line.ensures.fault k above has.table) (c.read_line.ensures.sound k above has.table)

pub returns-clause-read : goal.returns-clause-read
returns-clause-read c = λ k before has.
    let t = c.args.self.now in
    let bytes = c.args.bytes.now in
    let text = c.as_slice.result.now in
    let new = c.read_line-2.new.self in
    let above = ended_lines before in
    let line = without_front t.is_front text in
    let is : text ≡ t.line.items ++ bytes = c.as_slice.ensures.value ∙ c.in_ok-push_bytes.ensures ∙ ap (λ (line : Vec ℕ Global). line.items ++ bytes) c.replace-line.ensures.value in
    let empty : new.line.items ≡ [] = ap (λ (l : Vec ℕ Global). l.items) (c.read_line-2.ensures.kept.0 ∙ c.replace-line.ensures.after) ∙ c.new.ensures.items in
    on-ok c.read_line-2.result (HasLines k (above ++ line ∷ []) new.table) (HasRead k (before ++ (bytes ++ 10 ∷ [])) new)
    (read-more k before bytes text t has is c.requires.within new empty c.read_line-2.ensures.kept.1) (c.read_line-2.ensures.read k above has.table)

pub returns-clause-rows : goal.returns-clause-rows
returns-clause-rows c = λ k before has.
    let t = c.args.self.now in
    let bytes = c.args.bytes.now in
    let text = c.as_slice.result.now in
    let new = c.read_line-2.new.self in
    let above = ended_lines before in
    let line = without_front t.is_front text in
    let is : text ≡ t.line.items ++ bytes = c.as_slice.ensures.value ∙ c.in_ok-push_bytes.ensures ∙ ap (λ (line : Vec ℕ Global). line.items ++ bytes) c.replace-line.ensures.value in
    let old = map fields_of c.args.rows.now.items in
    let rows = map fields_of c.read_line-2.new.rows.items in
    on-ok c.read_line-2.result (AppendsRest (ended_table k (records_on k.members above)) (ended_table k (records_on k.members (above ++ line ∷ []))) old rows)
    (AppendsRest (ended_line_rows k before) (ended_line_rows k (before ++ (bytes ++ 10 ∷ []))) old rows) (rows-more k before bytes text t has is c.requires.within old rows)
    (c.read_line-2.ensures.rows k above has.table)

pub returns-clause-fault : goal.returns-clause-fault
returns-clause-fault c = λ k before behind has.
    let t = c.args.self.now in
    let bytes = c.args.bytes.now in
    let text = c.as_slice.result.now in
    let new = c.read_line-2.new.self in
    let above = ended_lines before in
    let line = without_front t.is_front text in
    let is : text ≡ t.line.items ++ bytes = c.as_slice.ensures.value ∙ c.in_ok-push_bytes.ensures ∙ ap (λ (line : Vec ℕ Global). line.items ++ bytes) c.replace-line.ensures.value in
    foretold c.read_line-2.result (fault_behind k above line) (streamed_line_fault k (before ++ (bytes ++ 10 ∷ behind))) (fault-is k before bytes text t has is c.requires.within behind)
    (c.read_line-2.ensures.fault k above has.table)

pub returns-clause-sound : goal.returns-clause-sound
returns-clause-sound c = λ k before behind has.
    let t = c.args.self.now in
    let bytes = c.args.bytes.now in
    let text = c.as_slice.result.now in
    let new = c.read_line-2.new.self in
    let above = ended_lines before in
    let line = without_front t.is_front text in
    let is : text ≡ t.line.items ++ bytes = c.as_slice.ensures.value ∙ c.in_ok-push_bytes.ensures ∙ ap (λ (line : Vec ℕ Global). line.items ++ bytes) c.replace-line.ensures.value in
    let old = map fields_of c.args.rows.now.items in
    let rows = map fields_of c.read_line-2.new.rows.items in
    on-fault c.read_line-2.result (fault_behind k above line) (AppendsRest (ended_table k (records_on k.members above)) (streamed_table k (records_on k.members above)) old rows)
    (AppendsRest (ended_line_rows k before) (sound_line_rows k (before ++ (bytes ++ 10 ∷ behind))) old rows)
    (λ fault. rows-above k before bytes text t has is c.requires.within behind fault old rows) (c.read_line-2.ensures.fault k above has.table) (c.read_line-2.ensures.sound k above has.table)
