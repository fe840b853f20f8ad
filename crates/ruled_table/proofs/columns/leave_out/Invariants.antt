use Rattle.std.proofs.Common.{◌≡◌, ◌==◌, ◌||◌, ℕ, nat_eq, take}
use Rattle.std.specs.HashSet.{contains}
use Rattle.std.specs.List.{list_any}
use Rattle.ruled_table.proofs.columns.leave_out.Given as goal

abbrev pub invariant-loop-column : goal.invariant-loop-column
invariant-loop-column l = (column : ℕ) → contains nat_eq l.left_out column ≡ (contains nat_eq l.initial.left_out column || list_any (λ other. other == column) (take l.column-index l.columns))
