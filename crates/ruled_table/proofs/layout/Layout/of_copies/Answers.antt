use Rattle.std.proofs.Common.{◌≡◌, ◌∙◌, ◌∷◌, ◌++◌, [], List, length, map, slice_index_or, None, Option, ap, ap₂, refl, subst, rules}
use Rattle.std.specs.Prelude.{IfOk}
use Rattle.std.proofs.lemmas.List.{map-append}
use Rattle.csv.specs.Records.{Row, fields_of}
use Rattle.pg_layout.specs.Text.{Text}
use Rattle.ruled_table.specs.Columns.{column_fault}
use Rattle.ruled_table.specs.Tables.{Tells}
use Rattle.ruled_table.specs.Layouts.{extents_in, fields_in, measured_in, places_in, sizes_fault_by, Plan, plan_in}
use Rattle.ruled_table.specs.Sides.{ruler_of}
use Rattle.ruled_table.specs.Shown.{shown_text}
use Rattle.ruled_table.specs.declared.view.ViewFault.{ViewFault}
use Rattle.ruled_table.proofs.RowsInParts.{extents-lent, layout-lent, sizes-lent}
use Rattle.ruled_table.proofs.Tables.{then_told}
use Rattle.ruled_table.proofs.layout.Layout.of_copies.Goals as goal

pub returns-clause-layout : goal.returns-clause-layout
returns-clause-layout c =
    let options = c.args.options.now in
    let rows : List Row = c.args.first.now in
    let first : List (List Text) = map fields_of rows in
    let ruler : Row = c.in_ok-ruler.ruler in
    let names : c.deref.result.now ≡ options.columns.items = search rules in
    let at : c.in_ok-places.places.items ≡ places_in options first = rw names at c.in_ok-places.ensures.places in
    let shows : c.deref-2.result.now ≡ c.in_ok-places.places.items = search rules in
    let long : c.in_ok-extents.extents.items ≡ extents_in options first = extents-lent options rows c.in_ok-places.places.items c.deref-2.result.now c.in_ok-extents.extents.items shows at c.in_ok-extents.ensures in
    let told : c.deref-3.result.now ≡ c.in_ok-extents.extents.items = search rules in
    let is : fields_of ruler ≡ ruler_of c.in_ok-extents.extents.items (length (slice_index_or first 0 [])) = c.in_ok-ruler.ensures ∙ ap₂ ruler_of told c.fields_in.ensures in
    let shown : map fields_of c.in_ok-measured.measured.items ≡ map (map (shown_text options)) first =
    c.in_ok-measured.ensures ∙ ap (λ (rs : List Row). map (map (shown_text options)) (map fields_of rs)) (c.in_ok-copies.ensures.items_if_clones_equal (λ x y is. is))
    in
    let lent : c.deref-4.result.now ≡ c.in_ok-measured.measured.items ++ ruler ∷ [] = c.deref-4.ensures.value ∙ c.in_ok-push.ensures.items in
    let are : map fields_of c.deref-4.result.now ≡ map (map (shown_text options)) first ++ fields_of ruler ∷ [] =
    ap (map fields_of) lent ∙ map-append fields_of c.in_ok-measured.measured.items (ruler ∷ []) ∙ ap (λ (texts : List (List Text)). texts ++ fields_of ruler ∷ []) shown
    in
    subst (λ (plan : Plan). IfOk c.of_measured.result (λ layout. plan_in layout ≡ plan)) (layout-lent options first c.in_ok-places.places.items c.in_ok-extents.extents.items (fields_of ruler) rows c.deref-4.result.now at refl long is are) c.of_measured.ensures.layout

pub returns-clause-fault : goal.returns-clause-fault
returns-clause-fault c =
    let options = c.args.options.now in
    let rows : List Row = c.args.first.now in
    let first : List (List Text) = map fields_of rows in
    let ruler : Row = c.in_ok-ruler.ruler in
    let names : c.deref.result.now ≡ options.columns.items = search rules in
    let at : c.in_ok-places.places.items ≡ places_in options first = rw names at c.in_ok-places.ensures.places in
    let shows : c.deref-2.result.now ≡ c.in_ok-places.places.items = search rules in
    let long : c.in_ok-extents.extents.items ≡ extents_in options first = extents-lent options rows c.in_ok-places.places.items c.deref-2.result.now c.in_ok-extents.extents.items shows at c.in_ok-extents.ensures in
    let told : c.deref-3.result.now ≡ c.in_ok-extents.extents.items = search rules in
    let is : fields_of ruler ≡ ruler_of c.in_ok-extents.extents.items (length (slice_index_or first 0 [])) = c.in_ok-ruler.ensures ∙ ap₂ ruler_of told c.fields_in.ensures in
    let shown : map fields_of c.in_ok-measured.measured.items ≡ map (map (shown_text options)) first =
    c.in_ok-measured.ensures ∙ ap (λ (rs : List Row). map (map (shown_text options)) (map fields_of rs)) (c.in_ok-copies.ensures.items_if_clones_equal (λ x y is. is))
    in
    let lent : c.deref-4.result.now ≡ c.in_ok-measured.measured.items ++ ruler ∷ [] = c.deref-4.ensures.value ∙ c.in_ok-push.ensures.items in
    let are : map fields_of c.deref-4.result.now ≡ map (map (shown_text options)) first ++ fields_of ruler ∷ [] =
    ap (map fields_of) lent ∙ map-append fields_of c.in_ok-measured.measured.items (ruler ∷ []) ∙ ap (λ (texts : List (List Text)). texts ++ fields_of ruler ∷ []) shown
    in
    let none : column_fault options.columns.items first ≡ None = rw names at c.in_ok-places.ensures.fault in
    then_told (column_fault options.columns.items first) (sizes_fault_by options (places_in options first) (fields_in options first) (measured_in options first)) c.of_measured.result none
    (subst (λ (fault : Option ViewFault). Tells fault c.of_measured.result) (sizes-lent options first c.in_ok-places.places.items c.in_ok-extents.extents.items (fields_of ruler) rows c.deref-4.result.now at refl long is are) c.of_measured.ensures.fault)
