use Rattle.std.proofs.Common.{◌≡◌, ◌∙◌, ◌≤◌, ◌-◌, ℕ, List, Option, Some, None, length, take, sym, ap, subst}
use Rattle.std.specs.Prelude.{slice_get}
use Rattle.std.proofs.lemmas.List.{length-take-le}
use Rattle.csv.specs.Records.{Row, fields_of, last_end}
use Rattle.csv.proofs.RecordFacts.{rising-last}
use Rattle.ruled_row.specs.Rows.{IsWhole, buffer_of, ended_of}
use Rattle.ruled_row.proofs.RowFacts.{ended_at, ended_fields, ended_none, ended_whole}
use Rattle.ruled_row.proofs.buffer.RowBuffer.ended.Goals as goal

pub slice_bounds-result-end : goal.slice_bounds-result-end
slice_bounds-result-end c =
    let own : Row = buffer_of c.self.inside in
    let end = c.in-Some.end.now in
    let last : last_end 0 own.ends ≡ end = ended_at own.ends end (subst (λ (xs : List ℕ). Some end ≡ slice_get xs (length xs - 1)) c.deref.ensures.value c.in-Some.ensures.value) in
    let within : end ≤ length own.bytes = subst (λ (n : ℕ). n ≤ length own.bytes) last (rising-last 0 own.ends (length own.bytes) c.self.invariant) in
    sym (length-take-le end c.deref-in-Some.result.now (subst (λ (xs : List ℕ). end ≤ length xs) (sym c.deref-in-Some.ensures.value) within))

pub returns-in-Some : goal.returns-in-Some
returns-in-Some c =
    let own : Row = buffer_of c.self.inside in
    let end = c.in-Some.end.now in
    let last : last_end 0 own.ends ≡ end = ended_at own.ends end (subst (λ (xs : List ℕ). Some end ≡ slice_get xs (length xs - 1)) c.deref.ensures.value c.in-Some.ensures.value) in
    record {
      bytes = ap (take end) c.deref-in-Some.ensures.value ∙ ap (λ (n : ℕ). take n own.bytes) (sym last) ∙ ap (λ (r : Row). (ended_of r).bytes) c.self.view_is;
      whole = subst (λ (r : Row). IsWhole (ended_of r)) c.self.view_is (ended_whole own c.self.invariant);
      fields = subst (λ (r : Row). fields_of (ended_of r) ≡ fields_of r) c.self.view_is (ended_fields own c.self.invariant);
    }

pub returns-in-None : goal.returns-in-None
returns-in-None c =
    let own : Row = buffer_of c.self.inside in
    let none : Option ℕ = None in
    let last : last_end 0 own.ends ≡ 0 = ended_none own.ends (subst (λ (xs : List ℕ). none ≡ slice_get xs (length xs - 1)) c.deref.ensures.value c.in-None.ensures.value) in
    record {
      bytes = ap (λ (n : ℕ). take n own.bytes) (sym last) ∙ ap (λ (r : Row). (ended_of r).bytes) c.self.view_is;
      whole = subst (λ (r : Row). IsWhole (ended_of r)) c.self.view_is (ended_whole own c.self.invariant);
      fields = subst (λ (r : Row). fields_of (ended_of r) ≡ fields_of r) c.self.view_is (ended_fields own c.self.invariant);
    }
