use Rattle.std.proofs.Common.{◌≡◌, ◌≢◌, ◌<◌, ◌≤◌, ◌+◌, ℕ, List, ap, arith, length, length-set, get_or-set_other, get_or-set_same, min, slice_index, subst, sum_by, inl, inr, zero-add}
use Rattle.std.specs.List.{range_with_len}
use Rattle.std.proofs.lemmas.Bool.{cases_order}
use Rattle.pg_layout.specs.Text.{Text}
use Rattle.pg_picture.proofs.Ranges.{sum_by-from_more}
use Rattle.pg_table.specs.Overflowing.{limit_of}
use Rattle.ruled_table.specs.Columns.{texts_of}
use Rattle.ruled_table.specs.Widths.{IsLowered, lowered}
use Rattle.ruled_table.proofs.widths.wrap_columns.Goals as goal

pub loop-column-preserved : goal.loop-column-preserved
loop-column-preserved c =
    let i : ℕ = c.loop-column.column in
    let old : List ℕ = c.args.widths.now in
    let limits : List ℕ = c.args.limits.now in
    let widths : List ℕ = c.loop-column.widths in
    let width : ℕ = c.in-Some.width in
    let texts : List (List Text) = texts_of c.args.rows in
    let limit : ℕ = limit_of limits i in
    let inside : i < length widths = omega arith in
    let now : slice_index widths i ≡ slice_index old i = c.loop-column.invariant.after i (omega arith) in
    let found : IsLowered c.args.breaking c.limit_at-limit.result texts i (slice_index widths i) width = rw c.in-Some.is at c.in_ok-found.ensures in
    let own : IsLowered c.args.breaking limit texts i (slice_index old i) width =
    subst (λ (n : ℕ). IsLowered c.args.breaking limit texts i n width) now (subst (λ (n : ℕ). IsLowered c.args.breaking n texts i (slice_index widths i) width) c.limit_at-limit.ensures found)
    in
    let more : sum_by (lowered old limits) (range_with_len 0 (i + 1)) ≡ sum_by (lowered old limits) (range_with_len 0 i) + min (slice_index old i) limit =
    omega (arith, sum_by-from_more (lowered old limits) 0 i, ap (lowered old limits) (zero-add i))
    in
    record {
      same = omega (arith, length-set widths i width, c.loop-column.invariant.same);
      sum = omega (arith, c.loop-column.invariant.sum, more, now, c.min-lowered.ensures, c.limit_at-limit.ensures, c.if-lowered-left.false);
      before = λ k h.
          elim (cases_order k i) [
            | inl e ↦ rw (e, get_or-set_same) own
            | inr o ↦ elim o [
              | inl below ↦ let ne : k ≢ i = omega (arith, below) in rw get_or-set_other (c.loop-column.invariant.before k below)
              | inr above ↦ absurd (omega (arith, above, h))
            ]
          ];
      after = λ k h. let ne : k ≢ i = omega (arith, h) in rw get_or-set_other (c.loop-column.invariant.after k (omega (arith, h)));
    }

pub returns-clause-fits : goal.returns-clause-fits
returns-clause-fits c = λ done.
    let end : c.loop-column.column ≡ length c.args.widths.now = omega (arith, c.loop-column-test.false, c.loop-column.auto.column-end, c.loop-column.invariant.same) in
    subst (λ (n : ℕ). sum_by (lowered c.args.widths.now c.args.limits.now) (range_with_len 0 n) ≤ c.args.room) end (omega (arith, c.loop-column.invariant.sum))

pub returns-clause-lowered : goal.returns-clause-lowered
returns-clause-lowered c = λ done k h. c.loop-column.invariant.before k (omega (arith, h, c.loop-column.invariant.same))
