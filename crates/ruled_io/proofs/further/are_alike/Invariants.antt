use Rattle.std.proofs.Common.{◌≡◌, ◌<◌, ℕ}
use Rattle.csv.specs.Records.{field_at, fields_of}
use Rattle.ruled_io.proofs.further.are_alike.Given as goal

abbrev pub invariant-loop-place : goal.invariant-loop-place
invariant-loop-place l = (i : ℕ) → i < l.place → field_at (fields_of l.row) i ≡ field_at (fields_of l.other) i
