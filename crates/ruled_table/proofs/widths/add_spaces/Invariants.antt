use Rattle.std.proofs.Common.{◌≡◌, ◌<◌, ◌≤◌, ◌+◌, ◌^◌, ℕ, length, slice_index}
use Rattle.ruled_table.proofs.widths.add_spaces.Given as goal

-- those so far have their spaces, and the others are as they were
abbrev pub invariant-loop-k : goal.invariant-loop-k
invariant-loop-k l = record {
  same : length l.widths ≡ length l.fn.widths;
  before : (k : ℕ) → k < l.k → slice_index l.widths k ≡ slice_index l.fn.widths k + 2;
  counted : (k : ℕ) → k < l.k → slice_index l.fn.widths k + 2 < 2 ^ 64;
  after : (k : ℕ) → l.k ≤ k → slice_index l.widths k ≡ slice_index l.fn.widths k;
}
