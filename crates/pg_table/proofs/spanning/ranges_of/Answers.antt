use Rattle.std.proofs.Common.{◌≡◌, ℕ, ◌++◌, ◌∷◌, [], List, map, length, slice_index, sym, ap, ◌∙◌, arith}
use Rattle.std.specs.List.{range_with_len}
use Rattle.std.proofs.lemmas.List.FromFn.{map-range_with_len_more}
use Rattle.pg_fit.specs.declared.narrowing.ColumnRange.{ColumnRange}
use Rattle.pg_fit.specs.Narrowing.{limited}
use Rattle.pg_table.specs.Overflowing.{limit_of}
use Rattle.pg_table.proofs.spanning.ranges_of.Goals as goal

abbrev range_at : List ℕ → List ℕ → List ℕ → ℕ → ColumnRange
range_at limits least naturals k = limited (limit_of limits k) (record { least = slice_index least k; natural = slice_index naturals k })

pub loop-column-preserved : goal.loop-column-preserved
loop-column-preserved g c =
    let k : ℕ = c.loop-column.column in
    let f : ℕ → ColumnRange = range_at c.args.limits.now c.args.least.now c.args.naturals.now in
    let here : c.limited.result ≡ f k = c.limited.ensures ∙ ap (λ n. limited n (record { least = slice_index c.args.least.now k; natural = slice_index c.args.naturals.now k })) c.limit_of.ensures in
    c.in_ok-push.ensures.items
    ∙ ap (λ xs. xs ++ c.limited.result ∷ []) c.loop-column.invariant
    ∙ ap (λ r. map f (range_with_len 0 k) ++ r ∷ []) here
    ∙ sym (map-range_with_len_more f 0 k k (omega arith))

pub returns : goal.returns
returns g c =
    let all : c.loop-column.column ≡ length c.args.naturals.now = omega (arith, c.loop-column-test.false, c.loop-column.auto.column-end) in
    c.loop-column.invariant ∙ ap (λ n. map (range_at c.args.limits.now c.args.least.now c.args.naturals.now) (range_with_len 0 n)) all
