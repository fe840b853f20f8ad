use Rattle.std.proofs.Common.{◌≡◌, ◌∙◌, ◌∷◌, ◌++◌, [], ℕ, List, sym, ap, arith}
use Rattle.std.proofs.lemmas.List.FromFn.{map-range_with_len_more}
use Rattle.csv.specs.Records.{fields_of}
use Rattle.pg_layout.specs.Text.{Text}
use Rattle.ruled_table.specs.Sides.{extent_at, ruler_of, widest_number}
use Rattle.ruled_table.proofs.points.ruler_of.Goals as goal

pub loop-field-preserved : goal.loop-field-preserved
loop-field-preserved c =
    let n : ℕ = c.loop-field.field in
    let f : ℕ → Text = λ field. widest_number (extent_at c.args.extents.now field) in
    let text : c.as_str.result.now ≡ f n = c.as_str.ensures.value ∙ c.in_ok-text.ensures ∙ ap widest_number c.extent_at.ensures in
    c.in_ok-push_field.ensures.fields
    ∙ ap (λ (t : Text). fields_of c.loop-field.ruler ++ t ∷ []) text
    ∙ ap (λ (ts : List Text). ts ++ f n ∷ []) c.loop-field.invariant
    ∙ sym (map-range_with_len_more f 0 n n (omega arith))

pub returns : goal.returns
returns c =
    let all : c.loop-field.field ≡ c.args.fields = omega (arith, c.loop-field-test.false, c.loop-field.auto.field-end) in
    c.loop-field.invariant ∙ ap (λ (n : ℕ). ruler_of c.args.extents.now n) all
