use Rattle.std.proofs.Common.{◌≡◌, ◌∙◌, ◌∷◌, ◌++◌, [], ℕ, List, length, map, slice_index_or, sym, ap, ap₂, arith}
use Rattle.std.specs.List.{range_with_len}
use Rattle.std.proofs.lemmas.List.FromFn.{map-range_with_len_more}
use Rattle.csv.specs.Records.{fields_of}
use Rattle.pg_layout.specs.Text.{Text}
use Rattle.ruled_table.specs.Sides.{extent_at, pointed}
use Rattle.pg_table.specs.declared.numbers.Extent.{Extent}
use Rattle.ruled_table.proofs.points.pointed_record.Goals as goal

pub loop-field-preserved : goal.loop-field-preserved
loop-field-preserved c =
    let n : ℕ = c.loop-field.field in
    let row : List Text = fields_of c.args.fields.now in
    let f : ℕ → Text = λ field. pointed (extent_at c.args.extents.now field).rest (slice_index_or row field []) in
    let text : c.as_str.result.now ≡ f n =
    c.as_str.ensures.value ∙ c.in_ok-text.ensures ∙ ap₂ (λ (e : Extent) (t : Text). pointed e.rest t) c.extent_at-rest.ensures c.field_at.ensures
    in
    c.in_ok-push_field.ensures.fields
    ∙ ap (λ (t : Text). fields_of c.loop-field.made ++ t ∷ []) text
    ∙ ap (λ (ts : List Text). ts ++ f n ∷ []) c.loop-field.invariant
    ∙ sym (map-range_with_len_more f 0 n n (omega arith))

pub returns : goal.returns
returns c =
    let row : List Text = fields_of c.args.fields.now in
    let all : c.loop-field.field ≡ length row = omega (arith, c.loop-field-test.false, c.loop-field.auto.field-end, c.len-field-end.ensures) in
    c.loop-field.invariant ∙ ap (λ (n : ℕ). map (λ (field : ℕ). pointed (extent_at c.args.extents.now field).rest (slice_index_or row field [])) (range_with_len 0 n)) all
