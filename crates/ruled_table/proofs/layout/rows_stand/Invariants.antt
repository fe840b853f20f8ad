use Rattle.std.proofs.Common.{◌≡◌, map, take}
use Rattle.csv.specs.Records.{fields_of}
use Rattle.ruled_table.specs.Shown.{shown_text}
use Rattle.ruled_table.proofs.layout.rows_stand.Given as goal

abbrev pub invariant-loop-fields : goal.invariant-loop-fields
invariant-loop-fields l = map (map (shown_text l.options)) (take l.fields-index (map fields_of l.fn.rows)) ≡ take l.fields-index (map fields_of l.fn.rows)
