use Rattle.std.proofs.Common.{◌≡◌, ◌-◌, take}
use Rattle.csv.specs.Records.{field_count, fields_of}
use Rattle.ruled_csv.specs.Inside.{line_of}
use Rattle.ruled_csv.proofs.words.line_of.Given as goal

abbrev pub invariant-loop-field : goal.invariant-loop-field
invariant-loop-field l = l.line.items ≡ line_of (take l.place (fields_of l.fields))

abbrev pub decreases-loop-field : goal.decreases-loop-field
decreases-loop-field l = field_count l.fields - l.place
