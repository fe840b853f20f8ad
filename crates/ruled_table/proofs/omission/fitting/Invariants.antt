use Rattle.std.proofs.Common.{◌≡◌, ◌+◌, ◌<◌, ◌≤◌, ℕ, length, slice_index, sum_by}
use Rattle.std.specs.List.{range_with_len}
use Rattle.ruled_table.specs.Layouts.{line_of, turn}
use Rattle.ruled_table.proofs.omission.fitting.Given as goal

abbrev pub invariant-loop-shown : goal.invariant-loop-shown
invariant-loop-shown l = record {
  sum : l.line ≡ sum_by (λ k. slice_index l.widths (turn (length l.widths) k) + 2) (range_with_len 0 l.shown);
  within : l.line ≤ l.total;
  fit : (k : ℕ) → k < l.shown → line_of l.config l.widths l.signs (k + 1) ≤ l.total;
}
