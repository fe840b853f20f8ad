use Rattle.std.proofs.Common.{◌≡◌, ℕ, ◌<◌, ◌≤◌, max, length, slice_index}
use Rattle.pg_table.proofs.measured.raise.Given as goal

-- those so far are raised, and the others are as they were
abbrev pub invariant-loop-k : goal.invariant-loop-k
invariant-loop-k l = record {
  same : length l.sizes ≡ length l.fn.sizes;
  before : (k : ℕ) → k < l.k → slice_index l.sizes k ≡ max (slice_index l.least k) (slice_index l.fn.sizes k);
  after : (k : ℕ) → l.k ≤ k → slice_index l.sizes k ≡ slice_index l.fn.sizes k;
}
