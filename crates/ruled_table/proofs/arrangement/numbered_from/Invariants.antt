use Rattle.std.proofs.Common.{◌≡◌, ◌+◌, ◌∷◌, [], map, slice_index_or}
use Rattle.std.specs.List.{range_with_len}
use Rattle.csv.specs.Records.{fields_of}
use Rattle.ruled_table.specs.Arranged.{label_of}
use Rattle.ruled_table.proofs.arrangement.numbered_from.Given as goal

abbrev pub invariant-loop-row : goal.invariant-loop-row
invariant-loop-row l = map fields_of l.numbered.items ≡ map (λ row. label_of (l.first + row) ∷ slice_index_or (map fields_of l.rows) row []) (range_with_len 0 l.row)
