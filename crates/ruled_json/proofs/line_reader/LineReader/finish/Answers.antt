use Rattle.std.proofs.Common.{◌≡◌, ◌≢◌, ◌∙◌, ◌∷◌, ◌++◌, ℕ, List, [], Global, Some, Vec, ap, map, subst, sym}
use Rattle.csv.specs.Records.{fields_of}
use Rattle.ruled_json.specs.Faults.{but_line}
use Rattle.ruled_json.specs.Streamed.{AppendsRest, HasLines, without_front, ended_line_rows, ended_lines, ended_table, fault_behind, sound_line_rows, streamed_line_fault, streamed_table}
use Rattle.ruled_json.specs.Rows.{records_on}
use Rattle.ruled_json.specs.declared.fault.JsonFault.TheVariants.{Memory}
use Rattle.ruled_json.proofs.StreamedLines.{last-above, last-fault, last-right, last-rows, sound-handed-on}
use Rattle.ruled_json.proofs.Tables.{joined}
use Rattle.ruled_json.proofs.Views.{handed_on}
use Rattle.ruled_json.proofs.line_reader.LineReader.finish.Goals as goal

pub returns-in_err-read_line-clause-fault : goal.returns-in_err-read_line-clause-fault
returns-in_err-read_line-clause-fault c = λ k bytes has.
    let t = c.args.self in
    let above = ended_lines bytes in
    let text : c.as_slice.result.now ≡ t.line.items = c.as_slice.ensures.value ∙ ap (λ (line : Vec ℕ Global). line.items) c.replace-line.ensures.value in
    let line = without_front t.is_front t.line.items in
    let fault = c.in_err-read_line.field-0.0 in
    let wrong : fault ≢ Memory → fault_behind k above line ≡ Some (but_line fault) =
    λ counts. ap (λ (l : List ℕ). fault_behind k above (without_front t.is_front l)) (sym text) ∙ c.in_err-read_line.ensures.fault k above has.table counts in
    handed_on (streamed_line_fault k bytes) fault c.from_residual.result (λ counts. last-fault k bytes t has (but_line fault) (wrong counts)) c.from_residual.ensures.1

pub returns-in_err-read_line-clause-sound : goal.returns-in_err-read_line-clause-sound
returns-in_err-read_line-clause-sound c = λ k bytes has.
    let t = c.args.self in
    let above = ended_lines bytes in
    let text : c.as_slice.result.now ≡ t.line.items = c.as_slice.ensures.value ∙ ap (λ (line : Vec ℕ Global). line.items) c.replace-line.ensures.value in
    let line = without_front t.is_front t.line.items in
    let fault = c.in_err-read_line.field-0.0 in
    let wrong : fault ≢ Memory → fault_behind k above line ≡ Some (but_line fault) =
    λ counts. ap (λ (l : List ℕ). fault_behind k above (without_front t.is_front l)) (sym text) ∙ c.in_err-read_line.ensures.fault k above has.table counts in
    let old = map fields_of c.args.rows.now.items in
    let rows = map fields_of c.read_line.new.rows.items in
    sound-handed-on (AppendsRest (ended_line_rows k bytes) (sound_line_rows k bytes) old rows) fault c.from_residual.result
    (λ counts. last-above k bytes t has (but_line fault) old rows (wrong counts) (c.in_err-read_line.ensures.sound k above has.table counts)) c.from_residual.ensures.1

pub returns-clause-rows : goal.returns-clause-rows
returns-clause-rows c = λ k bytes has.
    let t = c.args.self in
    let above = ended_lines bytes in
    let text : c.as_slice.result.now ≡ t.line.items = c.as_slice.ensures.value ∙ ap (λ (line : Vec ℕ Global). line.items) c.replace-line.ensures.value in
    let line = without_front t.is_front t.line.items in
    let new = c.read_line.new.self.table in
    let old = map fields_of c.args.rows.now.items in
    let between = map fields_of c.read_line.new.rows.items in
    let rows = map fields_of c.finish.new.rows.items in
    let all = records_on k.members (above ++ line ∷ []) in
    let read : HasLines k (above ++ line ∷ []) new =
    subst (λ (l : List ℕ). HasLines k (above ++ without_front t.is_front l ∷ []) new) text (c.in_ok-read_line.ensures.read k above has.table) in
    let first : AppendsRest (ended_table k (records_on k.members above)) (ended_table k all) old between =
    subst (λ (l : List ℕ). AppendsRest (ended_table k (records_on k.members above)) (ended_table k (records_on k.members (above ++ without_front t.is_front l ∷ []))) old between) text
    (c.in_ok-read_line.ensures.rows k above has.table) in
    last-rows k bytes t has new old rows read (joined (ended_table k (records_on k.members above)) (ended_table k all) (streamed_table k all) old between rows first (c.in_ok-finish.ensures.rest k all read.has))

pub returns-clause-fault : goal.returns-clause-fault
returns-clause-fault c = λ k bytes has.
    let t = c.args.self in
    let above = ended_lines bytes in
    let text : c.as_slice.result.now ≡ t.line.items = c.as_slice.ensures.value ∙ ap (λ (line : Vec ℕ Global). line.items) c.replace-line.ensures.value in
    let line = without_front t.is_front t.line.items in
    let new = c.read_line.new.self.table in
    last-right k bytes t has new (subst (λ (l : List ℕ). HasLines k (above ++ without_front t.is_front l ∷ []) new) text (c.in_ok-read_line.ensures.read k above has.table))
