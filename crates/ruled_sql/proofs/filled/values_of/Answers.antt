use Rattle.std.proofs.Common.{◌≡◌, ◌∙◌, ◌∷◌, ◌++◌, [], ℕ, slice_index_or, sym, ap, arith}
use Rattle.std.proofs.lemmas.List.{map-append}
use Rattle.std.proofs.lemmas.List.FromFn.{map-range_with_len_more}
use Rattle.csv.specs.Records.{fields_of}
use Rattle.sqlite.specs.Values.{bound, bound_value}
use Rattle.sqlite_value.specs.Order.{Row}
use Rattle.sqlite_value.specs.Value.{owned}
use Rattle.sqlite_value.specs.declared.value.Value.{Value}
use Rattle.sqlite_value.specs.declared.value.ValueRef.{ValueRef}
use Rattle.ruled_sql.specs.Filled.{value_of, values_of}
use Rattle.ruled_sql.proofs.filled.values_of.Goals as goal

pub loop-place-preserved : goal.loop-place-preserved
loop-place-preserved c =
    let n = c.loop-place.place in
    let value : ℕ → Value = λ (place : ℕ). value_of (slice_index_or (fields_of c.args.fields.now) place []) in
    let is : bound_value (owned c.value_of.result) ≡ value n = c.value_of.ensures ∙ ap value_of c.field_at.ensures in
    ap bound c.in_ok-push.ensures.items
    ∙ map-append (λ (v : ValueRef). bound_value (owned v)) c.loop-place.values.items (c.value_of.result ∷ [])
    ∙ ap (λ (v : Value). bound c.loop-place.values.items ++ v ∷ []) is
    ∙ ap (λ (values : Row). values ++ value n ∷ []) c.loop-place.invariant
    ∙ sym (map-range_with_len_more value 0 n n (omega arith))

pub returns : goal.returns
returns c =
    let all : c.loop-place.place ≡ c.args.count = omega (arith, c.loop-place-test.false, c.loop-place.auto.place-end) in
    c.loop-place.invariant ∙ ap (λ (n : ℕ). values_of n (fields_of c.args.fields.now)) all
