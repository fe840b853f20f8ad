use Rattle.std.proofs.Common.{◌≡◌, nat_eq, not, take, map, Some}
use Rattle.std.specs.HashSet.{contains}
use Rattle.std.specs.List.{filter}
use Rattle.ruled_table.proofs.columns.staying.Given as goal

abbrev pub invariant-loop-column : goal.invariant-loop-column
invariant-loop-column l = l.places.items ≡ map Some (filter (λ column. not (contains nat_eq l.left_out column)) (take l.column-index l.columns))
