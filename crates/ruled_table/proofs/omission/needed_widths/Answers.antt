use Rattle.std.proofs.Common.{◌≡◌, ◌∙◌, ◌∷◌, ◌++◌, [], ℕ, List, length, sym, ap, arith}
use Rattle.std.proofs.lemmas.List.FromFn.{map-range_with_len_more}
use Rattle.ruled_table.specs.Columns.{texts_of}
use Rattle.ruled_table.specs.Layouts.{needed_width, needed_widths}
use Rattle.ruled_table.proofs.omission.needed_widths.Goals as goal

pub loop-column-preserved : goal.loop-column-preserved
loop-column-preserved c =
    let n : ℕ = c.loop-column.column in
    let f : ℕ → ℕ = needed_width c.args.most (texts_of c.args.rows) in
    c.in_ok-push.ensures.items
    ∙ ap (λ (x : ℕ). c.loop-column.widths.items ++ x ∷ []) c.needed_width.ensures
    ∙ ap (λ (xs : List ℕ). xs ++ f n ∷ []) c.loop-column.invariant
    ∙ sym (map-range_with_len_more f 0 n n (omega arith))

pub returns : goal.returns
returns c =
    let all : c.loop-column.column ≡ length c.args.rows.places.now = omega (arith, c.loop-column-test.false, c.loop-column.auto.column-end) in
    c.loop-column.invariant ∙ ap (needed_widths c.args.most (texts_of c.args.rows)) all
