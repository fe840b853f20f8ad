use Rattle.std.proofs.Common.{List, ◌∙◌, ◌++◌, map, append-nil, sym, ap}
use Rattle.std.specs.Vec.Iter.{into_iter_items}
use Rattle.std.proofs.lemmas.List.{nil_from_length}
use Rattle.std.proofs.lemmas.Simd.{map-map}
use Rattle.csv.specs.Records.{Row, fields_of}
use Rattle.pg_layout.specs.Text.{Text}
use Rattle.ruled_table.specs.Shown.{shown_text}
use Rattle.ruled_table.proofs.LentTexts.{made_on}
use Rattle.ruled_table.proofs.rows.shown_records.Goals as goal

pub loop-fields-init : goal.loop-fields-init
loop-fields-init c =
    let f : List Text → List Text = map (shown_text c.args.options.now) in
    rw (c.in_ok-rows.ensures.items, c.into_iter-fields-iterator.ensures.into_iter_gives.0) (sym (map-map f fields_of c.args.records.items))

pub loop-fields-preserved : goal.loop-fields-preserved
loop-fields-preserved c =
    let f : Row → List Text = λ fields. map (shown_text c.args.options.now) (fields_of fields) in
    rw c.in_ok-push.ensures.items (
    made_on fields_of f c.loop-fields.rows.items c.in_ok-row.row c.in-Some.fields
    (into_iter_items c.loop-fields.fields-iterator) (into_iter_items c.next.new.self)
    (map (map (shown_text c.args.options.now)) (map fields_of c.args.records.items))
    c.in_ok-row.ensures c.in-Some.ensures.steps.0 c.loop-fields.invariant
    )

pub returns : goal.returns
returns c =
    let items = into_iter_items c.loop-fields.fields-iterator in
    let none = nil_from_length items (sym c.loop-fields.fields-iterator.rest.ok.0 ∙ c.in-None.ensures.steps.0) in
    let rows = map fields_of c.loop-fields.rows.items in
    let f : Row → List Text = λ fields. map (shown_text c.args.options.now) (fields_of fields) in
    sym (append-nil rows) ∙ ap (λ xs. rows ++ map f xs) (sym none) ∙ c.loop-fields.invariant
