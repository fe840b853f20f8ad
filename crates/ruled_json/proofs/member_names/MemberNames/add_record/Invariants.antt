use Rattle.std.proofs.Common.{◌≡◌, fold, map, take, string_bytes}
use Rattle.ruled_json.specs.Rows.{with_name}
use Rattle.ruled_json.proofs.member_names.MemberNames.add_record.Given as goal

abbrev pub invariant-loop-at : goal.invariant-loop-at
invariant-loop-at l = map string_bytes l.self.names.keys ≡ fold with_name (map string_bytes l.fn.self.names.keys) (map (λ m. m.0.now) (take l.at l.members))
