use Rattle.std.proofs.Common.{◌≡◌, ℕ, ◌+◌, ◌<◌, ◌≢◌, List, max, length, set, slice_index, sym, subst, arith, rules, inl, inr, length-set, get_or-set_same, get_or-set_other}
use Rattle.std.proofs.lemmas.Bool.{cases_order}
use Rattle.std.proofs.lemmas.Grind.{common_steps}
use Rattle.pg_table.proofs.measured.raise.Goals as goal

-- one size more: its new size is v
one_more : (sizes : List ℕ) (f : ℕ → ℕ) (at v k : ℕ) → at < length sizes → v ≡ f at → (k < at → slice_index sizes k ≡ f k) → k < at + 1 → slice_index (set sizes at v) k ≡ f k
one_more sizes f at v k inside is before h =
    elim (cases_order k at) [
      | inl e ↦ subst (λ i. slice_index (set sizes at v) i ≡ f i) (sym e) (rw get_or-set_same is)
      | inr o ↦ elim o [
        | inl below ↦ let ne : k ≢ at = omega (arith, below) in rw get_or-set_other (before below)
        | inr above ↦ absurd (omega (arith, above, h))
      ]
    ]

pub loop-k-preserved : goal.loop-k-preserved
loop-k-preserved c =
    let k : ℕ = c.loop-k.k in
    let inside : k < length c.loop-k.sizes = omega (arith, c.loop-k-test.true, c.loop-k.invariant.same) in
    let told : c.unwrap_or.result ≡ slice_index c.args.least.now k = first_of (search rules, grind (arith, common_steps)) in
    let own = c.loop-k.invariant.after k (omega arith) in
    record {
      same = omega (arith, length-set c.loop-k.sizes k c.max.result, c.loop-k.invariant.same);
      before = λ j h. one_more c.loop-k.sizes (λ i. max (slice_index c.args.least.now i) (slice_index c.args.sizes.now i)) k c.max.result j inside (omega (arith, c.max.ensures, told, own)) (c.loop-k.invariant.before j) h;
      after = λ j h. let ne : j ≢ k = omega (arith, h) in rw get_or-set_other (c.loop-k.invariant.after j (omega (arith, h)));
    }
