use Rattle.std.proofs.Common.{◌≡◌, ◌≤◌, ◌∙◌, List, [], map, length, slice_index_or, ap, arith}
use Rattle.std.proofs.lemmas.List.{take_all}
use Rattle.csv.specs.Records.{fields_of}
use Rattle.pg_layout.specs.Text.{Text}
use Rattle.ruled_table.specs.Shown.{shown_text}
use Rattle.ruled_table.proofs.LentTexts.{pushed_more}
use Rattle.ruled_table.proofs.rows.made_record.Goals as goal

pub loop-place-preserved : goal.loop-place-preserved
loop-place-preserved c =
    let place = c.loop-place.place in
    let fields : List Text = fields_of c.args.fields.now in
    let f : Text → Text = shown_text c.args.options.now in
    let is : c.as_str.result.now ≡ f (slice_index_or fields place []) = c.as_str.ensures.value ∙ c.in_ok-text.ensures ∙ ap f c.field_at.ensures in
    c.in_ok-push_field.ensures.fields ∙ pushed_more f (fields_of c.loop-place.shown) c.as_str.result.now fields place [] (omega (arith, c.loop-place-test.true, c.len-place-end.ensures)) is c.loop-place.invariant

pub returns : goal.returns
returns c =
    let fields : List Text = fields_of c.args.fields.now in
    let past : length fields ≤ c.loop-place.place = omega (arith, c.loop-place-test.false, c.len-place-end.ensures) in
    c.loop-place.invariant ∙ ap (map (shown_text c.args.options.now)) (take_all c.loop-place.place fields past)
