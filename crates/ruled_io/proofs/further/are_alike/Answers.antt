use Rattle.std.proofs.Common.{◌≡◌, ◌∙◌, ℕ, Bool, true, List, Option, None, Some, refl, sym, ap, arith}
use Rattle.std.specs.Prelude.{not}
use Rattle.std.specs.Option.{option_eq, option_map}
use Rattle.std.proofs.lemmas.Bool.{true≢false}
use Rattle.std.proofs.lemmas.Slice.Eq.{bytes_eq-Decides}
use Rattle.csv.specs.Records.{field_at, fields_of}
use Rattle.ruled_io.proofs.Inputs.{alike, same-fields, unlike}
use Rattle.ruled_io.proofs.further.are_alike.Goals as goal

-- options of equal texts are equal
equal-options : {X : Type 0} (text : X → List ℕ) (E : X → X → Bool) (a b : Option X) → ((x y : X) → text x ≡ text y → E x y ≡ true) → option_map text a ≡ option_map text b → option_eq E a b ≡ true
equal-options text E None None same is = refl
equal-options text E None (Some y) same is = absurd (cc)
equal-options text E (Some x) None same is = absurd (cc)
equal-options text E (Some x) (Some y) same is = same x y (cc)

pub returns-then-ne : goal.returns-then-ne
returns-then-ne c =
    let xs = fields_of c.args.row.now in
    let ys = fields_of c.args.other.now in
    unlike xs ys (λ same.
    let both : option_map (λ s. s.now) c.get.result ≡ option_map (λ s. s.now) c.get-in-loop-place.result =
    c.get.ensures.value ∙ ap (λ (fields : List (List ℕ)). field_at fields c.loop-place.place) same ∙ sym c.get-in-loop-place.ensures.value in
    true≢false (sym c.if-ne.true ∙ c.ne.ensures ∙ ap not (equal-options (λ s. s.now) _ c.get.result c.get-in-loop-place.result (λ x y is. (bytes_eq-Decides x.now y.now).1 is) both)))

pub returns : goal.returns
returns c =
    let xs = fields_of c.args.row.now in
    let ys = fields_of c.args.other.now in
    alike xs ys (same-fields xs ys (sym c.len.ensures ∙ c.if-len.false ∙ c.len-2.ensures) (λ i less. c.loop-place.invariant i (omega (arith, less, c.len.ensures, c.len-place-end.ensures, c.loop-place-test.false))))
