use Rattle.std.proofs.Common.{◌≡◌, drop, map, string_bytes}
use Rattle.std.specs.List.{list_all, list_any}
use Rattle.std.specs.Str.{bytes_eq}
use Rattle.ruled_json.proofs.member_names.MemberNames.has_each.Given as goal

abbrev pub invariant-loop-at : goal.invariant-loop-at
invariant-loop-at l =
    list_all (λ member. list_any (bytes_eq member.0.now) (map string_bytes l.self.names.keys)) l.members
    ≡ list_all (λ member. list_any (bytes_eq member.0.now) (map string_bytes l.self.names.keys)) (drop l.at l.members)
