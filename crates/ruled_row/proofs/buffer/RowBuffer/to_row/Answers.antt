use Rattle.std.proofs.Common.{◌≡◌, ◌∙◌, List, ℕ, sym, ap, ap₂, subst}
use Rattle.std.specs.Prelude.{string_bytes}
use Rattle.csv.specs.Records.{AllText, IsRecord, Row, fields_of}
use Rattle.ruled_row.specs.Ends.{places_of}
use Rattle.ruled_row.specs.Rows.{IsWhole, ended_of}
use Rattle.ruled_row.proofs.RowFacts.{ended_fields, ended_whole}
use Rattle.ruled_row.proofs.buffer.RowBuffer.to_row.Goals as goal

pub invariant_of-result : goal.invariant_of-result
invariant_of-result c =
    let r : Row = c.args.self.now in
    let rises : IsRecord r = subst IsRecord c.self.view_is c.self.invariant in
    let bytes = c.in_ok-text-in-Some.ensures.ok ∙ c.in-Some.ensures.some in
    let ends = c.in_ok-ends-in-Some.ensures ∙ c.deref.ensures.value ∙ ap (λ (own : Row). own.ends) c.self.view_is in
    let made : record { bytes = string_bytes c.in_ok-text-in-Some.text; ends = places_of c.in_ok-ends-in-Some.ends } ≡ ended_of r = ap₂ (λ (b : List ℕ) (e : List ℕ). record { bytes = b; ends = e }) bytes ends in
    subst (λ (row : Row). IsWhole row × AllText (fields_of row)) (sym made) (ended_whole r rises, subst AllText (sym (ended_fields r rises)) c.in-Some.ensures.fields)

pub returns-in_ok-text-in-Some-clause-same : goal.returns-in_ok-text-in-Some-clause-same
returns-in_ok-text-in-Some-clause-same c =
    let r : Row = c.args.self.now in
    let rises : IsRecord r = subst IsRecord c.self.view_is c.self.invariant in
    let bytes = c.in_ok-text-in-Some.ensures.ok ∙ c.in-Some.ensures.some in
    let ends = c.in_ok-ends-in-Some.ensures ∙ c.deref.ensures.value ∙ ap (λ (own : Row). own.ends) c.self.view_is in
    let made : record { bytes = string_bytes c.in_ok-text-in-Some.text; ends = places_of c.in_ok-ends-in-Some.ends } ≡ ended_of r = ap₂ (λ (b : List ℕ) (e : List ℕ). record { bytes = b; ends = e }) bytes ends in
    ap fields_of made ∙ ended_fields r rises

pub returns-in_ok-text-in-Some-clause-text : goal.returns-in_ok-text-in-Some-clause-text
returns-in_ok-text-in-Some-clause-text c = subst AllText (sym (returns-in_ok-text-in-Some-clause-same c)) c.in-Some.ensures.fields
