use Rattle.std.proofs.Common.{◌≡◌, map, take, string_bytes}
use Rattle.csv.specs.Records.{fields_of}
use Rattle.ruled_json.proofs.member_names.MemberNames.header.Given as goal

abbrev pub invariant-loop-name : goal.invariant-loop-name
invariant-loop-name l = fields_of l.row ≡ map string_bytes (take l.name-index l.name-items)
