use Rattle.std.proofs.Common.{◌≡◌, ◌∙◌, ◌++◌, ◌∷◌, [], ℕ, List, length, ap, ap₂}
use Rattle.csv.specs.Records.{Row}
use Rattle.ruled_row.specs.Rows.{buffer_of}
use Rattle.ruled_row.proofs.RowFacts.{fields_end, fields_stay, partial_end, partial_more, record_end, record_more}
use Rattle.ruled_row.proofs.buffer.RowBuffer.push_field.Goals as goal

pub invariant_of-self-in-Ok : goal.invariant_of-self-in-Ok
invariant_of-self-in-Ok c =
    let old : Row = buffer_of c.self.inside in
    let more : Row = record { bytes = old.bytes ++ c.args.field.now; ends = old.ends } in
    let bytes = c.in_ok-extend_from_slice.ensures.items in
    let end : c.len.result ≡ length more.bytes = c.len.ensures ∙ c.extend_from_slice.new.self.ok.0 ∙ ap length bytes in
    let ends : c.push_end.new.ends.items ≡ old.ends ++ length more.bytes ∷ [] = c.in-Ok.ensures.ok ∙ ap (λ (n : ℕ). old.ends ++ n ∷ []) end in
    rw (bytes, ends) (record_end more (record_more old c.args.field.now c.self.invariant))

pub returns-in-Ok-clause-fields : goal.returns-in-Ok-clause-fields
returns-in-Ok-clause-fields c =
    let old : Row = buffer_of c.self.inside in
    let more : Row = record { bytes = old.bytes ++ c.args.field.now; ends = old.ends } in
    let bytes = c.in_ok-extend_from_slice.ensures.items in
    let end : c.len.result ≡ length more.bytes = c.len.ensures ∙ c.extend_from_slice.new.self.ok.0 ∙ ap length bytes in
    let ends : c.push_end.new.ends.items ≡ old.ends ++ length more.bytes ∷ [] = c.in-Ok.ensures.ok ∙ ap (λ (n : ℕ). old.ends ++ n ∷ []) end in
    rw (← c.self.view_is, bytes, ends)
    (fields_end more (record_more old c.args.field.now c.self.invariant)
    ∙ ap₂ (λ (front : List (List ℕ)) (field : List ℕ). front ++ (field ∷ [])) (fields_stay old c.args.field.now c.self.invariant) (partial_more old c.args.field.now c.self.invariant))

pub returns-in-Ok-clause-partial : goal.returns-in-Ok-clause-partial
returns-in-Ok-clause-partial c =
    let old : Row = buffer_of c.self.inside in
    let more : Row = record { bytes = old.bytes ++ c.args.field.now; ends = old.ends } in
    let bytes = c.in_ok-extend_from_slice.ensures.items in
    let end : c.len.result ≡ length more.bytes = c.len.ensures ∙ c.extend_from_slice.new.self.ok.0 ∙ ap length bytes in
    let ends : c.push_end.new.ends.items ≡ old.ends ++ length more.bytes ∷ [] = c.in-Ok.ensures.ok ∙ ap (λ (n : ℕ). old.ends ++ n ∷ []) end in
    rw (bytes, ends) (partial_end more)
