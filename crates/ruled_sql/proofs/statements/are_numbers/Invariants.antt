use Rattle.std.proofs.Common.{◌≡◌, take, true}
use Rattle.std.specs.List.{list_all}
use Rattle.csv.specs.Records.{Row, field_at, fields_of}
use Rattle.ruled_sql.specs.Filled.{may_be_number}
use Rattle.ruled_sql.proofs.statements.are_numbers.Given as goal

abbrev pub invariant-loop-fields : goal.invariant-loop-fields
invariant-loop-fields l = list_all (λ (fields : Row). may_be_number (field_at (fields_of fields) l.place)) (take l.fields-index l.records) ≡ true
