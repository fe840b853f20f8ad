use Rattle.std.proofs.Common.{◌≡◌, ◌∷◌, drop, map, take}
use Rattle.csv.specs.Records.{fields_of}
use Rattle.ruled_io.specs.Input.{fault_from, further_fault, joined_rows, rows_held, rows_of_all}
use Rattle.ruled_io.proofs.further.joined.Given as goal

abbrev pub invariant-loop-number : goal.invariant-loop-number
invariant-loop-number l = record {
  rows : map fields_of l.all.items ≡ joined_rows l.options (map fields_of l.fn.rows.items ∷ map rows_held (take l.number l.further));
  fault : further_fault l.options l.further (map fields_of l.fn.rows.items) ≡ fault_from l.options (rows_of_all l.further (map fields_of l.fn.rows.items)) l.number (drop l.number l.further);
}
