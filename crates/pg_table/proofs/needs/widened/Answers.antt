use Rattle.std.proofs.Common.{◌≡◌, ℕ, ◌+◌, ◌<◌, ◌≤◌, List, length, drop, slice_index, ap, ◌∙◌, arith, rules}
use Rattle.std.proofs.lemmas.List.FromFn.{length-map-range_with_len}
use Rattle.std.proofs.lemmas.List.Sorted.{All-permutation, IsNonDecreasingBy-from_sort_by_key}
use Rattle.pg_table.specs.declared.needs.Need.{Need}
use Rattle.pg_table.specs.Natural.{widened}
use Rattle.pg_table.proofs.ListedSizes.{seam}
use Rattle.pg_table.proofs.Widenings.{all-permutation}
use Rattle.pg_table.proofs.needs.widened.Goals as goal

pub widen_in_order-requires-clause-some : goal.widen_in_order-requires-clause-some
widen_in_order-requires-clause-some g c = All-permutation (λ (need : Need). 0 < need.count) _ _ c.sort_unstable_by_key.ensures.permutation c.requires.some

pub widen_in_order-requires-clause-inside : goal.widen_in_order-requires-clause-inside
widen_in_order-requires-clause-inside g c = All-permutation (λ (need : Need). need.first + need.count ≤ length c.args.sizes.now) _ _ c.sort_unstable_by_key.ensures.permutation c.requires.inside

pub widen_in_order-requires-clause-sorted : goal.widen_in_order-requires-clause-sorted
widen_in_order-requires-clause-sorted g c = IsNonDecreasingBy-from_sort_by_key (λ (need : Need). need.count) _ c.sort_unstable_by_key.ensures.sorted (λ a r q k. search rules)

pub widen_in_order-requires-clause-same : goal.widen_in_order-requires-clause-same
widen_in_order-requires-clause-same g c = c.deref_mut.ensures.value ∙ c.in_ok-wider.ensures.items

pub returns : goal.returns
returns g c =
    let new : List ℕ = c.widen_in_order.new.wider in
    let long : length new ≡ c.in_ok-wider.wider.len = omega (arith, ap length c.widen_in_order.ensures, length-map-range_with_len (widened (slice_index c.args.sizes.now) c.sort_unstable_by_key.new.self (length c.args.sizes.now)) 0 (length c.args.sizes.now), c.in_ok-wider.ensures.len) in
    seam new (drop (length new) c.in_ok-wider.wider.items) c.in_ok-wider.wider.len long
    ∙ c.widen_in_order.ensures
    ∙ all-permutation (slice_index c.args.sizes.now) c.args.needs.now c.sort_unstable_by_key.new.self c.sort_unstable_by_key.ensures.permutation (length c.args.sizes.now) (length c.args.sizes.now)
