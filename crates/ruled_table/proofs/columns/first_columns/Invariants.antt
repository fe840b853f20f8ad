use Rattle.std.proofs.Common.{◌≡◌, ℕ, List, drop}
use Rattle.std.specs.List.{position_from}
use Rattle.std.specs.Str.{bytes_eq}
use Rattle.std.specs.HashMap.{get_by}
use Rattle.csv.specs.Records.{fields_of}
use Rattle.ruled_table.proofs.columns.first_columns.Given as goal

abbrev pub invariant-loop-place : goal.invariant-loop-place
invariant-loop-place l = (name : List ℕ) → get_by (λ known. bytes_eq name known.now) l.first ≡ position_from (λ field. bytes_eq field name) l.place (drop l.place (fields_of l.header))
