use Rattle.std.proofs.Common.{◌∙◌, ◌∷◌, ◌++◌, [], ℕ, List, sym, ap, arith}
use Rattle.std.proofs.lemmas.List.FromFn.{map-range_with_len_more}
use Rattle.pg_fit.specs.declared.narrowing.ColumnRange.{ColumnRange}
use Rattle.ruled_table.specs.Columns.{texts_of}
use Rattle.ruled_table.specs.Bounds.{range_of}
use Rattle.ruled_table.proofs.ranges.kept_limits.Goals as goal

pub loop-column-preserved : goal.loop-column-preserved
loop-column-preserved c =
    let n : ℕ = c.loop-column.column in
    let f : ℕ → ColumnRange = range_of c.args.options.now (texts_of c.args.fields) (texts_of c.args.rows) in
    c.in_ok-push.ensures.items
    ∙ ap (λ (x : ColumnRange). c.loop-column.ranges.items ++ x ∷ []) c.range_of.ensures
    ∙ ap (λ (xs : List ColumnRange). xs ++ f n ∷ []) c.loop-column.invariant
    ∙ sym (map-range_with_len_more f 0 n n (omega arith))
