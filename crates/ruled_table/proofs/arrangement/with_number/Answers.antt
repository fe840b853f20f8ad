use Rattle.std.proofs.Common.{◌≤◌, ◌<◌, ◌∙◌, ◌∷◌, ◌++◌, [], List, length, slice_index_or, sym, ap, arith}
use Rattle.std.proofs.lemmas.List.{take_all, take_more}
use Rattle.csv.specs.Records.{fields_of}
use Rattle.pg_layout.specs.Text.{Text}
use Rattle.ruled_table.specs.Arranged.{label_of}
use Rattle.ruled_table.proofs.arrangement.with_number.Goals as goal

pub loop-place-preserved : goal.loop-place-preserved
loop-place-preserved c =
    let fields : List Text = fields_of c.args.fields.now in
    let n = c.loop-place.place in
    let within : n < length fields = omega (arith, c.loop-place-test.true, c.len-place-end.ensures) in
    c.in_ok-push_field-2.ensures.fields
    ∙ ap (λ (text : Text). fields_of c.loop-place.row ++ text ∷ []) c.field_at.ensures
    ∙ ap (λ (texts : List Text). texts ++ slice_index_or fields n [] ∷ []) c.loop-place.invariant
    ∙ ap (λ (texts : List Text). label_of c.args.number ∷ texts) (sym (take_more fields n [] within))

pub returns : goal.returns
returns c =
    let fields : List Text = fields_of c.args.fields.now in
    let past : length fields ≤ c.loop-place.place = omega (arith, c.loop-place-test.false, c.len-place-end.ensures) in
    c.loop-place.invariant ∙ ap (λ (texts : List Text). label_of c.args.number ∷ texts) (take_all c.loop-place.place fields past)
