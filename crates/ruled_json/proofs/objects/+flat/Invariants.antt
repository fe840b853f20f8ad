use Rattle.std.proofs.Common.{◌≡◌, length, take}
use Rattle.json.specs.Tree.{json_tokens, members_tokens}
use Rattle.json.specs.Value.{members_view, value_view}
use Rattle.ruled_json.specs.Rows.{flat_members, joined}
use Rattle.ruled_json.proofs.objects.+flat.Given as goal

abbrev pub decreases-push_flat : goal.decreases-push_flat
decreases-push_flat l = length (json_tokens (value_view l.value.now))

abbrev pub decreases-push_each : goal.decreases-push_each
decreases-push_each l = length (members_tokens (members_view l.members.now))

abbrev pub invariant-push_each-loop-member : goal.invariant-push_each-loop-member
invariant-push_each-loop-member l =
    members_view l.flat.items ≡ joined (members_view l.initial.flat.items) (flat_members l.front (members_view (take l.member-index l.members)))
