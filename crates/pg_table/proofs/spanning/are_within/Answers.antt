use Rattle.std.proofs.Common.{◌≡◌, ℕ, ◌-◌, ◌<◌, ◌≤◌, ◌&&◌, Bool, true, false, nat_le, List, length, slice_index, sum_by, sym, ap, arith, inl, inr}
use Rattle.std.specs.List.{range_with_len, list_all}
use Rattle.std.proofs.lemmas.Bool.{and_left, and_right, and_from, cases_lt}
use Rattle.std.proofs.lemmas.Bool.Decides.{nat_tests}
use Rattle.pg_table.specs.Overflowing.{beside_columns, limit_of}
use Rattle.pg_table.proofs.ListedSizes.{sum-more, sum-below}
use Rattle.pg_table.proofs.ShownCells.{all_pass, one_fails}
use Rattle.pg_table.proofs.spanning.are_within.Goals as goal

-- widths that are within limits and a room, and those of which one isn't, or all together
module _ (limits ws : List ℕ) (room n : ℕ) where
  abbrev test : ℕ → Bool
  test k = nat_le (slice_index ws k) (limit_of limits k)

  abbrev total : Bool
  total = nat_le (sum_by (slice_index ws) (range_with_len 0 n)) room

  all-within : ((k : ℕ) → k < n → slice_index ws k ≤ limit_of limits k) → sum_by (slice_index ws) (range_with_len 0 n) ≤ room → (list_all test (range_with_len 0 n) && total) ≡ true
  all-within each low =
      and_from (list_all test (range_with_len 0 n)) total
      (all_pass test 0 n (λ k _ h. let fits = each k (omega (arith, h)) in (let yes : test k ≡ true = grind (arith, nat_tests, fits) in yes)))
      (let yes : total ≡ true = grind (arith, nat_tests, low) in yes)

  one-past : (k : ℕ) → k < n → limit_of limits k < slice_index ws k → (list_all test (range_with_len 0 n) && total) ≡ false
  one-past k h past =
      let no : test k ≡ false = grind (arith, nat_tests, past) in
      and_left (list_all test (range_with_len 0 n)) total (one_fails test 0 n k (omega arith) (omega (arith, h)) no)

  all-past : room < sum_by (slice_index ws) (range_with_len 0 n) → (list_all test (range_with_len 0 n) && total) ≡ false
  all-past past =
      let no : total ≡ false = grind (arith, nat_tests, past) in
      and_right (list_all test (range_with_len 0 n)) total no

pub returns-then-width-min : goal.returns-then-width-min
returns-then-width-min g c =
    let ws = c.args.widths.now in
    let n : ℕ = length c.args.widths.now in
    let k : ℕ = c.loop-column.column in
    let room : ℕ = c.args.total - beside_columns c.args.config.now (length c.args.widths.now) in
    elim (cases_lt (limit_of c.args.limits.now k) (slice_index c.args.widths.now k)) [
      | inl past ↦ sym (one-past c.args.limits.now c.args.widths.now room n k c.loop-column-test.true past)
      | inr low ↦
          sym (all-past c.args.limits.now c.args.widths.now room n
          (omega (arith, low, c.if-width-min.true, c.min.ensures, c.limit_of.ensures, c.loop-column.invariant.left, c.loop-column.invariant.together, sum-below (slice_index c.args.widths.now) k n c.loop-column-test.true)))
    ]

pub loop-column-preserved : goal.loop-column-preserved
loop-column-preserved g c =
    let k : ℕ = c.loop-column.column in
    let more = sum-more (slice_index c.args.widths.now) k in
    record {
      left = omega (arith, c.loop-column.invariant.left, more);
      each = λ j h.
          elim (cases_lt j k) [
            | inl before ↦ c.loop-column.invariant.each j before
            | inr past ↦
                let same : j ≡ k = omega (arith, h, past) in
                omega (arith, ap (slice_index c.args.widths.now) same, ap (limit_of c.args.limits.now) same, c.if-width-min.false, c.min.ensures, c.limit_of.ensures)
          ];
      together = omega (arith, c.loop-column.invariant.left, c.loop-column.invariant.together, more, c.if-width-min.false, c.min.ensures);
    }

pub returns : goal.returns
returns g c =
    let n : ℕ = length c.args.widths.now in
    let all : c.loop-column.column ≡ length c.args.widths.now = omega (arith, c.loop-column-test.false, c.loop-column.auto.column-end) in
    sym (all-within c.args.limits.now c.args.widths.now (c.args.total - beside_columns c.args.config.now (length c.args.widths.now)) (length c.args.widths.now)
    (λ k h. c.loop-column.invariant.each k (omega (arith, h, all)))
    (omega (arith, c.loop-column.invariant.together, ap (λ m. sum_by (slice_index c.args.widths.now) (range_with_len 0 m)) all)))
