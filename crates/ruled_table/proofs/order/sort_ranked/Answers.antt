use Rattle.std.proofs.Common.{◌≡◌, Bool, ap, of_calls, rules}
use Rattle.std.specs.Cmp.{IsStrictWeakOrder}
use Rattle.std.specs.Ordering.{is_lt}
use Rattle.std.proofs.lemmas.Fn.{always_returns_same}
use Rattle.std.proofs.lemmas.List.MinMax.{ranks_by}
use Rattle.ruled_table.specs.Order.{order_of, rank_in}
use Rattle.ruled_table.specs.declared.order.RankedRow.{RankedRow}
use Rattle.ruled_table.proofs.WordsOfColumns.{order-total, sorted-alone}
use Rattle.ruled_table.proofs.order.sort_ranked.Goals as goal

pub returns : goal.returns
returns c =
    let less : RankedRow → RankedRow → Bool = λ a b. is_lt (order_of c.args.is_descending (rank_in a.rank) (rank_in b.rank)) in
    let order : IsStrictWeakOrder less = ranks_by (order-total c.args.is_descending) (λ (row : RankedRow). rank_in row.rank) in
    sorted-alone less order c.args.rows.now.items c.sort_by.new.self.items
    (c.in_ok-sort_by.ensures.sorted less order (always_returns_same _ _ _ (λ a r q k.
    let is : r ≡ order_of c.args.is_descending (rank_in a.0.now.rank) (rank_in a.1.0.now.rank) = search (rules, of_calls) in
    (ap is_lt is, search (rules, of_calls)))))
    (c.in_ok-sort_by.ensures.stable less order (always_returns_same _ _ _ (λ a r q k.
    let is : r ≡ order_of c.args.is_descending (rank_in a.0.now.rank) (rank_in a.1.0.now.rank) = search (rules, of_calls) in
    (ap is_lt is, search (rules, of_calls)))))
