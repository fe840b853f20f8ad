use Rattle.std.proofs.Common.{◌≡◌, ◌++◌, ◌-◌, ◌≤◌, [], length, replicate}
use Rattle.csv.specs.Records.{fields_of}
use Rattle.ruled_json.proofs.member_names.MemberNames.padded.Given as goal

abbrev pub invariant-loop-count : goal.invariant-loop-count
invariant-loop-count l =
    (fields_of l.row ≡ fields_of l.initial.row ++ replicate (l._count - length (fields_of l.initial.row)) [])
    × (l._count - length (fields_of l.initial.row) ≤ l._count-end - length (fields_of l.initial.row))
