use Rattle.std.proofs.Common.{◌≡◌, ◌≤◌, ◌<◌, ◌∙◌, List, [], map, length, slice_index_or, sym, ap, arith, rules}
use Rattle.std.proofs.lemmas.List.{get_or-map, length-map, take_all}
use Rattle.csv.specs.Records.{Row, fields_of}
use Rattle.pg_layout.specs.Text.{Text}
use Rattle.ruled_table.specs.Shown.{shown_text}
use Rattle.ruled_table.proofs.LentTexts.{same_more}
use Rattle.ruled_table.proofs.layout.rows_stand.Goals as goal

pub loop-fields-preserved : goal.loop-fields-preserved
loop-fields-preserved c =
    let rows : List Row = c.args.rows.now in
    let i = c.loop-fields.fields-index in
    let row : Row = c.fields-item.result in
    let f : List Text → List Text = map (shown_text c.args.options.now) in
    let within : i < length rows = omega arith in
    let is : slice_index_or (map fields_of rows) i [] ≡ fields_of row = get_or-map fields_of rows i row [] within ∙ ap fields_of (sym c.fields-item.is) in
    same_more f (map fields_of rows) i [] (omega (arith, within, length-map rows fields_of)) (ap f is ∙ c.all_stand.ensures (search rules) ∙ sym is) c.loop-fields.invariant

pub returns : goal.returns
returns c = λ all.
    let rows : List (List Text) = map fields_of c.args.rows.now in
    let past : length rows ≤ c.loop-fields.fields-index = omega (arith, length-map c.args.rows.now fields_of) in
    let whole = take_all c.loop-fields.fields-index rows past in
    ap (map (map (shown_text c.args.options.now))) (sym whole) ∙ c.loop-fields.invariant ∙ whole
