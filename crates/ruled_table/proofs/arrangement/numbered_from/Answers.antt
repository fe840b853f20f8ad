use Rattle.std.proofs.Common.{◌≡◌, ◌<◌, ◌∙◌, ◌+◌, ◌∷◌, ◌++◌, [], ℕ, zero, suc, List, get_or, length, map, slice_index_or, sym, ap, arith}
use Rattle.std.specs.List.{range_with_len}
use Rattle.std.proofs.lemmas.List.{map-append}
use Rattle.std.proofs.lemmas.List.FromFn.{map-range_with_len_more}
use Rattle.csv.specs.Records.{Row, fields_of}
use Rattle.pg_layout.specs.Text.{Text}
use Rattle.ruled_table.specs.Arranged.{label_of}
use Rattle.ruled_table.proofs.arrangement.numbered_from.Goals as goal

row-there : (rows : List Row) (n : ℕ) (row : Row) → n < length rows → row ≡ get_or rows n row → fields_of row ≡ slice_index_or (map fields_of rows) n []
row-there [] n row within is = absurd (omega (arith, within))
row-there (first ∷ rows) zero row within is = ap fields_of is
row-there (first ∷ rows) (suc n) row within is = row-there rows n row (omega (arith, within)) is

pub loop-row-preserved : goal.loop-row-preserved
loop-row-preserved c =
    let rows : List Row = c.args.rows.now in
    let n = c.loop-row.row in
    let at : ℕ → List Text = λ row. label_of (c.args.first + row) ∷ slice_index_or (map fields_of rows) row [] in
    let above : List (List Text) = map at (range_with_len 0 n) in
    let fields = row-there rows n c.index-rows-row.result (omega (arith, c.loop-row-test.true)) c.index-rows-row.is in
    ap (map fields_of) c.in_ok-push.ensures.items
    ∙ map-append fields_of c.loop-row.numbered.items (c.in_ok-with_number.field-0 ∷ [])
    ∙ ap (λ (xs : List (List Text)). xs ++ fields_of c.in_ok-with_number.field-0 ∷ []) c.loop-row.invariant
    ∙ ap (λ (row : List Text). above ++ row ∷ []) (c.in_ok-with_number.ensures ∙ ap (λ (xs : List Text). label_of (c.args.first + n) ∷ xs) fields)
    ∙ sym (map-range_with_len_more at 0 n n (omega arith))
