use Rattle.std.proofs.Common.{◌≡◌, map}
use Rattle.std.specs.List.{range_with_len}
use Rattle.ruled_table.specs.Bounds.{limit_of}
use Rattle.ruled_table.specs.Columns.{told_of}
use Rattle.ruled_table.proofs.bounds.Bounds.limits.Given as goal

abbrev pub invariant-loop-column : goal.invariant-loop-column
invariant-loop-column l = l.limits.items ≡ map (λ column. limit_of (told_of l.self.limits.items column)) (range_with_len 0 l.column)
