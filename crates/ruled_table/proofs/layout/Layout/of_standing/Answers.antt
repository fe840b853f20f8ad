use Rattle.std.proofs.Common.{◌≡◌, ◌≤◌, ◌+◌, ◌∙◌, ◌∷◌, ◌++◌, [], ℕ, zero, suc, List, drop, length, map, take, slice_index_or, None, Option, inl, inr, refl, sym, ap, ap₂, subst, arith, rules}
use Rattle.std.specs.List.{insert}
use Rattle.std.specs.Option.{option_or}
use Rattle.std.specs.Prelude.{IfOk}
use Rattle.std.proofs.lemmas.Bool.{cases_lt}
use Rattle.std.proofs.lemmas.List.{length-take, take_all}
use Rattle.csv.specs.Records.{Row, fields_of}
use Rattle.pg_layout.specs.Text.{Text}
use Rattle.ruled_table.specs.Columns.{column_fault}
use Rattle.ruled_table.specs.Tables.{Tells}
use Rattle.ruled_table.specs.Layouts.{extents_in, fields_in, measured_in, places_in, sizes_fault_by, Plan, plan_in}
use Rattle.ruled_table.specs.Sides.{ruler_of}
use Rattle.ruled_table.specs.declared.view.ViewFault.{ViewFault}
use Rattle.ruled_table.proofs.RowsInParts.{extents-lent, layout-lent, ruled, sizes-lent}
use Rattle.ruled_table.proofs.layout.Layout.of_standing.Goals as goal

-- the first ones of a list are as many of it
take-again : {X : Type 0} (xs : List X) (n : ℕ) → take (length (take n xs)) xs ≡ take n xs
take-again xs n = elim (cases_lt n (length xs)) [
  | inl below ↦ let same : length (take n xs) ≡ n = omega (arith, length-take n xs, below) in ap (λ (k : ℕ). take k xs) same
  | inr above ↦ let all : length xs ≤ length (take n xs) = omega (arith, length-take n xs, above) in take_all (length (take n xs)) xs all ∙ sym (take_all n xs above)
]

-- a list with an element more among its own, up to that, before it and without it
insert-front : {X : Type 0} (xs : List X) (i : ℕ) (x : X) → i ≤ length xs → take (i + 1) (insert xs i x) ≡ take i xs ++ x ∷ []
insert-front xs zero x within = refl
insert-front [] (suc i) x within = absurd (omega (arith, within))
insert-front (y ∷ ys) (suc i) x within =
    let next : suc i + 1 ≡ suc (i + 1) = omega arith in
    rw next (ap (λ (zs : List _). y ∷ zs) (insert-front ys i x (omega (arith, within))))

insert-before : {X : Type 0} (xs : List X) (i : ℕ) (x : X) → i ≤ length xs → take i (insert xs i x) ≡ take i xs
insert-before xs zero x within = refl
insert-before [] (suc i) x within = absurd (omega (arith, within))
insert-before (y ∷ ys) (suc i) x within = ap (λ (zs : List _). y ∷ zs) (insert-before ys i x (omega (arith, within)))

insert-without : {X : Type 0} (xs : List X) (i : ℕ) (x : X) → i ≤ length xs → take i (insert xs i x) ++ drop (i + 1) (insert xs i x) ≡ xs
insert-without xs zero x within = refl
insert-without [] (suc i) x within = absurd (omega (arith, within))
insert-without (y ∷ ys) (suc i) x within =
    let next : suc i + 1 ≡ suc (i + 1) = omega arith in
    rw next (ap (λ (zs : List _). y ∷ zs) (insert-without ys i x (omega (arith, within))))

pub returns-clause-layout : goal.returns-clause-layout
returns-clause-layout c =
    let options = c.args.options.now in
    let count = c.args.count in
    let rows : List Row = c.args.rows.now.items in
    let top : List Row = take count rows in
    let first : List (List Text) = map fields_of top in
    let lent : c.first_of-first.result.now ≡ top = c.first_of-first.ensures ∙ ap (take count) c.deref.ensures.value in
    let names : c.deref-2.result.now ≡ options.columns.items = search rules in
    let at : c.in_ok-places.places.items ≡ places_in options first = rw (names, lent) at c.in_ok-places.ensures.places in
    let i : ℕ = length c.first_of-first.result.now in
    let end : i ≡ length top = ap (λ (rs : List Row). length rs) lent in
    let ruler : Row = c.in_ok-ruler.ruler in
    let own : map fields_of c.first_of.result.now ≡ first =
    ap (map fields_of)
    (c.first_of.ensures
    ∙ ap (take i) (c.deref-5.ensures.value ∙ c.in_ok-insert.ensures.items)
    ∙ insert-before rows i ruler (omega (arith, end, length-take count rows))
    ∙ ap (λ (k : ℕ). take k rows) end
    ∙ take-again rows count)
    in
    let measured : c.first_of-2.result.now ≡ top ++ ruler ∷ [] =
    c.first_of-2.ensures
    ∙ ap (take (i + 1)) (c.deref-6.ensures.value ∙ c.in_ok-insert.ensures.items)
    ∙ insert-front rows i ruler (omega (arith, end, length-take count rows))
    ∙ ap (λ (rs : List Row). rs ++ ruler ∷ []) (ap (λ (k : ℕ). take k rows) end ∙ take-again rows count)
    in
    let are = ruled options top ruler c.first_of-2.result.now c.requires measured in
    let shows : c.deref-3.result.now ≡ c.in_ok-places.places.items = search rules in
    let long : c.in_ok-extents.extents.items ≡ extents_in options first = extents-lent options top c.in_ok-places.places.items c.deref-3.result.now c.in_ok-extents.extents.items shows at (rw lent at c.in_ok-extents.ensures) in
    let told : c.deref-4.result.now ≡ c.in_ok-extents.extents.items = search rules in
    let is : fields_of ruler ≡ ruler_of c.in_ok-extents.extents.items (length (slice_index_or first 0 [])) =
    c.in_ok-ruler.ensures ∙ ap₂ ruler_of told (c.fields_in.ensures ∙ ap (λ (rs : List Row). length (slice_index_or (map fields_of rs) 0 [])) lent)
    in
    let same = layout-lent options first c.in_ok-places.places.items c.in_ok-extents.extents.items (fields_of ruler) c.first_of.result.now c.first_of-2.result.now at own long is are in
    subst (λ (plan : Plan). IfOk c.of_measured-layout.result (λ layout. plan_in layout ≡ plan)) same c.of_measured-layout.ensures.layout

pub returns-clause-fault : goal.returns-clause-fault
returns-clause-fault c =
    let options = c.args.options.now in
    let count = c.args.count in
    let rows : List Row = c.args.rows.now.items in
    let top : List Row = take count rows in
    let first : List (List Text) = map fields_of top in
    let lent : c.first_of-first.result.now ≡ top = c.first_of-first.ensures ∙ ap (take count) c.deref.ensures.value in
    let names : c.deref-2.result.now ≡ options.columns.items = search rules in
    let at : c.in_ok-places.places.items ≡ places_in options first = rw (names, lent) at c.in_ok-places.ensures.places in
    let i : ℕ = length c.first_of-first.result.now in
    let end : i ≡ length top = ap (λ (rs : List Row). length rs) lent in
    let ruler : Row = c.in_ok-ruler.ruler in
    let own : map fields_of c.first_of.result.now ≡ first =
    ap (map fields_of)
    (c.first_of.ensures
    ∙ ap (take i) (c.deref-5.ensures.value ∙ c.in_ok-insert.ensures.items)
    ∙ insert-before rows i ruler (omega (arith, end, length-take count rows))
    ∙ ap (λ (k : ℕ). take k rows) end
    ∙ take-again rows count)
    in
    let measured : c.first_of-2.result.now ≡ top ++ ruler ∷ [] =
    c.first_of-2.ensures
    ∙ ap (take (i + 1)) (c.deref-6.ensures.value ∙ c.in_ok-insert.ensures.items)
    ∙ insert-front rows i ruler (omega (arith, end, length-take count rows))
    ∙ ap (λ (rs : List Row). rs ++ ruler ∷ []) (ap (λ (k : ℕ). take k rows) end ∙ take-again rows count)
    in
    let are = ruled options top ruler c.first_of-2.result.now c.requires measured in
    let shows : c.deref-3.result.now ≡ c.in_ok-places.places.items = search rules in
    let long : c.in_ok-extents.extents.items ≡ extents_in options first = extents-lent options top c.in_ok-places.places.items c.deref-3.result.now c.in_ok-extents.extents.items shows at (rw lent at c.in_ok-extents.ensures) in
    let told : c.deref-4.result.now ≡ c.in_ok-extents.extents.items = search rules in
    let is : fields_of ruler ≡ ruler_of c.in_ok-extents.extents.items (length (slice_index_or first 0 [])) =
    c.in_ok-ruler.ensures ∙ ap₂ ruler_of told (c.fields_in.ensures ∙ ap (λ (rs : List Row). length (slice_index_or (map fields_of rs) 0 [])) lent)
    in
    let none : column_fault options.columns.items first ≡ None = rw (names, lent) at c.in_ok-places.ensures.fault in
    let sizes : Option ViewFault = sizes_fault_by options (places_in options first) (fields_in options first) (measured_in options first) in
    let same : sizes_fault_by options c.in_ok-places.places.items _ _ ≡ option_or (column_fault options.columns.items first) sizes =
    sizes-lent options first c.in_ok-places.places.items c.in_ok-extents.extents.items (fields_of ruler) c.first_of.result.now c.first_of-2.result.now at own long is are ∙ sym (ap (λ (o : Option ViewFault). option_or o sizes) none)
    in
    subst (λ (o : Option ViewFault). Tells o c.of_measured-layout.result) same c.of_measured-layout.ensures.fault

pub returns-clause-rows : goal.returns-clause-rows
returns-clause-rows c =
    let count = c.args.count in
    let rows : List Row = c.args.rows.now.items in
    let lent : c.first_of-first.result.now ≡ take count rows = c.first_of-first.ensures ∙ ap (take count) c.deref.ensures.value in
    let i : ℕ = length c.first_of-first.result.now in
    let end : i ≡ length (take count rows) = ap (λ (rs : List Row). length rs) lent in
    ap (map fields_of)
    (c.remove.ensures.by_index.2
    ∙ ap (λ (rs : List Row). take i rs ++ drop (i + 1) rs) c.in_ok-insert.ensures.items
    ∙ insert-without rows i c.in_ok-ruler.ruler (omega (arith, end, length-take count rows)))
