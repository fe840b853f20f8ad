use Rattle.std.proofs.Common.{◌≡◌, ◌≤◌, ◌∙◌, List, [], map, length, slice_index_or, sym, ap, arith, rules}
use Rattle.std.proofs.lemmas.List.{take_all}
use Rattle.csv.specs.Records.{fields_of}
use Rattle.pg_layout.specs.Text.{Text}
use Rattle.ruled_table.specs.Shown.{shown_text}
use Rattle.ruled_table.proofs.LentTexts.{same_more}
use Rattle.ruled_table.proofs.rows.each_stands.Goals as goal

pub loop-place-preserved : goal.loop-place-preserved
loop-place-preserved c =
    let place = c.loop-place.place in
    let fields : List Text = fields_of c.args.fields.now in
    let f : Text → Text = shown_text c.args.options.now in
    let is : c.field_at.result.now ≡ slice_index_or fields place [] = c.field_at.ensures in
    same_more f fields place [] (omega (arith, c.loop-place-test.true, c.len-place-end.ensures)) (sym (ap f is) ∙ c.stands.ensures (search rules) ∙ is) c.loop-place.invariant

pub returns : goal.returns
returns c = λ all.
    let fields : List Text = fields_of c.args.fields.now in
    let past : length fields ≤ c.loop-place.place = omega (arith, c.loop-place-test.false, c.len-place-end.ensures) in
    let whole = take_all c.loop-place.place fields past in
    ap (map (shown_text c.args.options.now)) (sym whole) ∙ c.loop-place.invariant ∙ whole
