use Rattle.std.proofs.Common.{◌≡◌, ◌∙◌, ℕ, [], false, length, sym, ap, subst}
use Rattle.std.specs.Prelude.{◌==◌}
use Rattle.std.proofs.lemmas.Bool.{eqb-true, true≢false}
use Rattle.std.proofs.lemmas.List.{nil_from_length}
use Rattle.csv.specs.Records.{Row, fields_of, partial_of}
use Rattle.ruled_row.proofs.RowFacts.{fields_none, nothing}
use Rattle.ruled_row.proofs.buffer.RowBuffer.is_empty.Goals as goal

pub returns-then-is_empty-clause-fields : goal.returns-then-is_empty-clause-fields
returns-then-is_empty-clause-fields c = λ none.
    let ends = c.self.inside.ends in
    rw (← c.self.view_is) (fields_none c.self.inside.bytes.items ends.items (nil_from_length ends.items (sym ends.ok.0 ∙ eqb-true _ 0 (sym c.is_empty-then-is_empty.ensures ∙ none))))

pub returns-then-is_empty-clause-some : goal.returns-then-is_empty-clause-some
returns-then-is_empty-clause-some c = λ some fields partial.
    let ends = c.self.inside.ends in
    let none = nothing c.self.inside.bytes.items ends.items (ap (λ (r : Row). fields_of r) c.self.view_is ∙ fields) (ap (λ (r : Row). partial_of r) c.self.view_is ∙ partial) in
    true≢false (subst (λ (n : ℕ). (n == 0) ≡ false) (ends.ok.0 ∙ ap length none.1) (sym c.is_empty-then-is_empty.ensures ∙ some))

pub returns-else-is_empty-clause-some : goal.returns-else-is_empty-clause-some
returns-else-is_empty-clause-some c = λ some fields partial.
    let bytes = c.self.inside.bytes in
    let none = nothing bytes.items c.self.inside.ends.items (ap (λ (r : Row). fields_of r) c.self.view_is ∙ fields) (ap (λ (r : Row). partial_of r) c.self.view_is ∙ partial) in
    true≢false (subst (λ (n : ℕ). (n == 0) ≡ false) (bytes.ok.0 ∙ ap length none.0) (sym c.is_empty.ensures ∙ c.if-is_empty.false))
