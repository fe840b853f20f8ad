use Rattle.std.proofs.Common.{◌≡◌, ℕ, List, option_map, take}
use Rattle.std.specs.Str.{bytes_eq}
use Rattle.indexmap.specs.IndexMap.{get_by}
use Rattle.json.specs.Find.{get_member}
use Rattle.json.specs.Value.{members_view, value_view}
use Rattle.ruled_json.proofs.member_names.members_by_name.Given as goal

abbrev pub invariant-loop-member : goal.invariant-loop-member
invariant-loop-member l =
    (name : List ℕ) → option_map (λ v. value_view v.now) (get_by (λ known. bytes_eq name known.now) l.members) ≡ get_member name (members_view (take l.member-index l.list))
