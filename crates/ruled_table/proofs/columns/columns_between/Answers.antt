use Rattle.std.proofs.Common.{◌≡◌, ◌∙◌, ◌+◌, ◌-◌, ◌++◌, ◌∷◌, [], List, ℕ, ap, arith, rules, sym}
use Rattle.std.specs.List.{range_with_len}
use Rattle.ruled_table.proofs.WordsOfColumns.{range_more}
use Rattle.ruled_table.proofs.columns.columns_between.Goals as goal

pub loop-column-init : goal.loop-column-init
loop-column-init c =
    let same : c.args.first - c.args.first ≡ 0 = omega arith in
    let none : range_with_len c.args.first (c.args.first - c.args.first) ≡ [] = ap (range_with_len c.args.first) same in (
      rw none (search rules),
      omega arith,
    )

pub loop-column-preserved : goal.loop-column-preserved
loop-column-preserved c =
    let first = c.args.first in
    let column = c.loop-column.column in
    let count : column + 1 - first ≡ column - first + 1 = omega arith in (
      c.in_ok-push.ensures.items
          ∙ ap (λ (columns : List ℕ). columns ++ column ∷ []) c.loop-column.invariant.0
          ∙ sym (ap (range_with_len first) count ∙ range_more first (column - first) column (omega arith)),
      omega arith,
    )

pub returns : goal.returns
returns c =
    let all : c.loop-column.column - c.args.first ≡ c.args.end - c.args.first = omega arith in
    c.loop-column.invariant.0 ∙ ap (range_with_len c.args.first) all
