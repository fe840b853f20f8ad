use Rattle.std.proofs.Common.{◌≡◌, ◌∙◌, ◌∷◌, ◌++◌, [], ℕ, List, map, slice_index_or, string_bytes, sym, ap, arith}
use Rattle.std.proofs.lemmas.List.FromFn.{map-range_with_len_more}
use Rattle.csv.specs.Records.{fields_of}
use Rattle.pg_layout.specs.Text.{Text}
use Rattle.ruled_table.specs.Arranged.{padded_to}
use Rattle.ruled_table.proofs.arrangement.row_of_names.Goals as goal

pub loop-place-preserved : goal.loop-place-preserved
loop-place-preserved c =
    let names : List Text = map string_bytes c.args.names.now in
    let n = c.loop-place.place in
    let at : ℕ → Text = λ place. slice_index_or names place [] in
    c.in_ok-push_field.ensures.fields
    ∙ ap (λ (text : Text). fields_of c.loop-place.row ++ text ∷ []) c.name_at.ensures
    ∙ ap (λ (texts : List Text). texts ++ at n ∷ []) c.loop-place.invariant
    ∙ sym (map-range_with_len_more at 0 n n (omega arith))

pub returns : goal.returns
returns c =
    let all : c.loop-place.place ≡ c.args.columns = omega (arith, c.loop-place-test.false, c.loop-place.auto.place-end) in
    c.loop-place.invariant ∙ ap (λ (n : ℕ). padded_to n (map string_bytes c.args.names.now)) all
