use Rattle.std.proofs.Common.{◌≡◌, map, take}
use Rattle.csv.specs.Records.{fields_of}
use Rattle.ruled_table.specs.Shown.{shown_text}
use Rattle.ruled_table.proofs.rows.each_stands.Given as goal

abbrev pub invariant-loop-place : goal.invariant-loop-place
invariant-loop-place l = map (shown_text l.options) (take l.place (fields_of l.fields)) ≡ take l.place (fields_of l.fields)
