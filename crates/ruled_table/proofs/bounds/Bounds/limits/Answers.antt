use Rattle.std.proofs.Common.{◌≡◌, ◌∙◌, ◌∷◌, ◌++◌, [], ℕ, List, map, sym, ap, arith, rules}
use Rattle.std.specs.List.{range_with_len}
use Rattle.std.proofs.lemmas.List.FromFn.{map-range_with_len_more}
use Rattle.ruled_table.specs.Bounds.{limit_of}
use Rattle.ruled_table.specs.Columns.{told_of}
use Rattle.ruled_table.proofs.bounds.Bounds.limits.Goals as goal

pub loop-column-preserved : goal.loop-column-preserved
loop-column-preserved c =
    let column = c.loop-column.column in
    let limits = c.args.self.now.limits.items in
    let f : ℕ → ℕ = λ column. limit_of (told_of limits column) in
    let told : c.deref.result.now ≡ limits = search rules in
    c.in_ok-push.ensures.items
    ∙ ap (λ (n : ℕ). c.loop-column.limits.items ++ n ∷ []) (c.limit_of.ensures ∙ ap limit_of (rw told at c.told_of.ensures))
    ∙ ap (λ (ns : List ℕ). ns ++ f column ∷ []) c.loop-column.invariant
    ∙ sym (map-range_with_len_more f 0 column column (omega arith))

pub returns : goal.returns
returns c =
    let f : ℕ → ℕ = λ column. limit_of (told_of c.args.self.now.limits.items column) in
    let all : c.loop-column.column ≡ c.args.columns = omega (arith, c.loop-column-test.false, c.loop-column.auto.column-end) in
    c.loop-column.invariant ∙ ap (λ (n : ℕ). map f (range_with_len 0 n)) all
