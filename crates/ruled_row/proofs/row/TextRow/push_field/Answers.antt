use Rattle.std.proofs.Common.{◌≡◌, ◌≤◌, ◌∙◌, ◌++◌, ◌∷◌, [], ℕ, List, length, length-append, sym, ap, arith}
use Rattle.std.specs.Prelude.{string_bytes, string_len}
use Rattle.std.specs.Str.{IsCharBoundary}
use Rattle.std.proofs.lemmas.Str.{IsCharBoundary-at_seam, IsUtf8-string_bytes}
use Rattle.csv.specs.Records.{Row, fields_of}
use Rattle.ruled_row.specs.Ends.{places_of}
use Rattle.ruled_row.specs.Rows.{row_of}
use Rattle.ruled_row.proofs.RowFacts.{fields_more, text_more, whole_more}
use Rattle.ruled_row.proofs.row.TextRow.push_field.Goals as goal

pub invariant_of-self-in-Ok : goal.invariant_of-self-in-Ok
invariant_of-self-in-Ok c =
    let old : Row = row_of c.self.inside in
    let bytes = c.in_ok-push_str.ensures.bytes in
    let end : c.len.result ≡ length (old.bytes ++ c.args.field.now) = c.len.ensures ∙ c.push_str.new.self.bytes.ok.0 ∙ ap length bytes in
    let ends : places_of c.push.new.self ≡ old.ends ++ length (old.bytes ++ c.args.field.now) ∷ [] = c.in-Ok.ensures.ok ∙ ap (λ (n : ℕ). old.ends ++ n ∷ []) end in
    rw (bytes, ends) (whole_more old c.args.field.now c.self.invariant.0, text_more old c.args.field.now c.self.invariant.0 c.self.invariant.1 c.utf8.field)

pub returns-in-Ok-clause-fields : goal.returns-in-Ok-clause-fields
returns-in-Ok-clause-fields c =
    let old : Row = row_of c.self.inside in
    let bytes = c.in_ok-push_str.ensures.bytes in
    let end : c.len.result ≡ length (old.bytes ++ c.args.field.now) = c.len.ensures ∙ c.push_str.new.self.bytes.ok.0 ∙ ap length bytes in
    let ends : places_of c.push.new.self ≡ old.ends ++ length (old.bytes ++ c.args.field.now) ∷ [] = c.in-Ok.ensures.ok ∙ ap (λ (n : ℕ). old.ends ++ n ∷ []) end in
    rw (← c.self.view_is, bytes, ends) (fields_more old c.args.field.now c.self.invariant.0)

pub truncate-requires : goal.truncate-requires
truncate-requires c = λ within.
    let old = string_bytes c.self.inside.text in
    let cut = IsCharBoundary-at_seam (string_bytes c.push_str.new.self) old c.args.field.now c.in_ok-push_str.ensures.bytes c.utf8.field in
    let start : c.len-start.result ≡ length old = c.len-start.ensures ∙ c.self.inside.text.bytes.ok.0 in
    rw start (cut.0, λ some below high. cut.1 below high)
