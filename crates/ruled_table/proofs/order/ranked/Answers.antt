use Rattle.std.proofs.Common.{◌≡◌, List, [], ◌∙◌, ◌++◌, map, slice_index_or, append-nil, sym, ap}
use Rattle.std.specs.Vec.Iter.{into_iter_items}
use Rattle.std.proofs.lemmas.List.{nil_from_length}
use Rattle.std.proofs.lemmas.Simd.{map-map}
use Rattle.csv.specs.Records.{Row, fields_of}
use Rattle.ruled_table.specs.Order.{Ranked, rank_in, rank_of, row_in, with_rank}
use Rattle.pg_layout.specs.Text.{Text}
use Rattle.ruled_table.proofs.LentTexts.{made_on}
use Rattle.ruled_table.proofs.order.ranked.Goals as goal

pub loop-fields-init : goal.loop-fields-init
loop-fields-init c =
    let f : List Text → Ranked × List Text = with_rank c.args.options.now c.args.is_numeric c.args.column in
    rw (c.in_ok-ranked.ensures.items, c.into_iter-fields-iterator.ensures.into_iter_gives.0) (sym (map-map f fields_of c.args.rows.items))

pub loop-fields-preserved : goal.loop-fields-preserved
loop-fields-preserved c =
    let rank : Text → Ranked = rank_of c.args.options.now c.args.is_numeric in
    let f : List Text → Ranked × List Text = with_rank c.args.options.now c.args.is_numeric c.args.column in
    let row = c.in-Some.fields in
    let is : rank_in c.in_ok-rank.rank ≡ rank (slice_index_or (fields_of row) c.args.column []) = c.in_ok-rank.ensures ∙ ap rank c.field_at.ensures in
    rw c.in_ok-push.ensures.items (
    made_on row_in (λ fields. f (fields_of fields)) c.loop-fields.ranked.items (record { rank = c.in_ok-rank.rank; fields = row }) row
    (into_iter_items c.loop-fields.fields-iterator) (into_iter_items c.next.new.self)
    (map f (map fields_of c.args.rows.items))
    (ap (λ (r : Ranked). (r, fields_of row)) is) c.in-Some.ensures.steps.0 c.loop-fields.invariant
    )

pub returns : goal.returns
returns c =
    let f : List Text → Ranked × List Text = with_rank c.args.options.now c.args.is_numeric c.args.column in
    let items = into_iter_items c.loop-fields.fields-iterator in
    let none = nil_from_length items (sym c.loop-fields.fields-iterator.rest.ok.0 ∙ c.in-None.ensures.steps.0) in
    let rows = map row_in c.loop-fields.ranked.items in
    sym (append-nil rows) ∙ ap (λ (xs : List Row). rows ++ map (λ fields. f (fields_of fields)) xs) (sym none) ∙ c.loop-fields.invariant
