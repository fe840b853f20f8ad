use Rattle.std.proofs.Common.{◌≡◌, ◌∙◌, ◌++◌, ◌∷◌, [], ℕ, List, drop, length, ap}
use Rattle.std.proofs.lemmas.Result.{on_ok_weaker}
use Rattle.csv.specs.Records.{Rising, Row, last_end}
use Rattle.csv.proofs.RecordFacts.{by_outcome}
use Rattle.ruled_row.specs.Rows.{buffer_of}
use Rattle.ruled_row.proofs.RowFacts.{partial_end, record_end}
use Rattle.ruled_row.proofs.buffer.RowBuffer.end_field.Goals as goal

pub invariant_of-self : goal.invariant_of-self
invariant_of-self c =
    let old : Row = buffer_of c.self.inside in
    let size : c.len.result ≡ length old.bytes = c.len.ensures ∙ c.self.inside.bytes.ok.0 in
    by_outcome c.push_end.result _ _ (Rising 0 c.push_end.new.ends.items (length old.bytes)) c.push_end.ensures.ok c.push_end.ensures.err
    (λ is. rw (is, size) (record_end old c.self.invariant)) (λ is. rw is c.self.invariant)

pub returns-clause-partial : goal.returns-clause-partial
returns-clause-partial c =
    let old : Row = buffer_of c.self.inside in
    let size : c.len.result ≡ length old.bytes = c.len.ensures ∙ c.self.inside.bytes.ok.0 in
    on_ok_weaker c.push_end.result
    (λ is. ap (λ (ends : List ℕ). drop (last_end 0 ends) old.bytes) (is ∙ ap (λ (n : ℕ). old.ends ++ n ∷ []) size) ∙ partial_end old)
    c.push_end.ensures.ok
