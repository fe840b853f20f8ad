use Rattle.std.proofs.Common.{◌≡◌, drop}
use Rattle.std.specs.List.{position, position_from}
use Rattle.csv.specs.Records.{fields_of}
use Rattle.ruled_io.specs.Requests.{has_records}
use Rattle.ruled_io.proofs.request.records_place.Given as goal

abbrev pub invariant-loop-place : goal.invariant-loop-place
invariant-loop-place l = position has_records (fields_of l.fields) ≡ position_from has_records l.place (drop l.place (fields_of l.fields))
