use Rattle.std.proofs.Common.{◌≡◌, ◌∙◌, ◌∷◌, ◌++◌, [], ℕ, List, length, map, string_bytes, codes, sym, ap, subst, arith}
use Rattle.std.specs.Prelude.{IfOk}
use Rattle.std.specs.List.{join_by, range_with_len}
use Rattle.std.proofs.lemmas.List.{map-append}
use Rattle.std.proofs.lemmas.List.FromFn.{map-range_with_len_more}
use Rattle.csv.specs.Records.{fields_of}
use Rattle.ruled_sql.specs.Filled.{column_text}
use Rattle.ruled_sql.proofs.Filling.{joined-same}
use Rattle.ruled_sql.proofs.statements.columns_text.Goals as goal

pub loop-place-preserved : goal.loop-place-preserved
loop-place-preserved c =
    let n = c.loop-place.place in
    let text : ℕ → List ℕ = column_text (fields_of c.args.names.now) (map fields_of c.args.records.now) in
    ap (map string_bytes) c.in_ok-push.ensures.items
    ∙ map-append string_bytes c.loop-place.columns.items (c.in_ok-column.column ∷ [])
    ∙ ap (λ (one : List ℕ). map string_bytes c.loop-place.columns.items ++ one ∷ []) c.in_ok-column.ensures
    ∙ ap (λ (texts : List (List ℕ)). texts ++ text n ∷ []) c.loop-place.invariant
    ∙ sym (map-range_with_len_more text 0 n n (omega arith))

pub returns : goal.returns
returns c =
    let text : ℕ → List ℕ = column_text (fields_of c.args.names.now) (map fields_of c.args.records.now) in
    let count : ℕ = length (fields_of c.args.names.now) in
    let all : c.loop-place.place ≡ count = omega (arith, c.loop-place-test.false, c.loop-place.auto.place-end, c.len-place-end.ensures) in
    let same : map string_bytes c.loop-place.columns.items ≡ map text (range_with_len 0 count) = c.loop-place.invariant ∙ ap (λ (n : ℕ). map text (range_with_len 0 n)) all in
    let items : c.deref.result.now ≡ c.loop-place.columns.items = c.deref.ensures.value in
    let whole = joined-same string_bytes text (codes ", ") c.loop-place.columns.items (range_with_len 0 count) same in
    subst (λ (bytes : List ℕ). IfOk c.join.result (λ joined. string_bytes joined ≡ bytes)) (ap (join_by string_bytes (codes ", ")) items ∙ whole) c.join.ensures.ok
