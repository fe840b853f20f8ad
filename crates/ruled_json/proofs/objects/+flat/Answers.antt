use Rattle.std.proofs.Common.{◌≡◌, ◌<◌, ◌∙◌, ap, length, arith, rules}
use Rattle.json.specs.Tree.{HasNumbers, MembersHaveNumbers, json_tokens, members_tokens}
use Rattle.json.specs.Value.{members_view, value_view}
use Rattle.ruled_json.proofs.Flat.{flat-next, joined-none, leaf-array, leaf-boolean, leaf-null, leaf-number, leaf-string, member-less, member-numbers, pushed}
use Rattle.ruled_json.specs.Rows.{flat_member, joined}
use Rattle.ruled_json.proofs.objects.+flat.Goals as goal
use Rattle.ruled_json.proofs.objects.+flat.Goals.{push_flat-in-Array+in_ok-text_of-in-Array, push_flat-in-Null, push_flat-in-Bool, push_flat-in-Number+in_ok-try_alloc_str-in-Number, push_flat-in-String+in_ok-try_alloc_str-in-String}

pub push_each-loop-member-init : goal.push_each-loop-member-init
push_each-loop-member-init t c = joined-none (members_view c.args.flat.now.items)

pub push_each-push_flat-requires : goal.push_each-push_flat-requires
push_each-push_flat-requires t c =
    let ms = c.args.members.now in
    let i = c.loop-member.member-index in
    let m = c.member-item.result in
    let less : length (json_tokens (value_view m.1)) < length (members_tokens (members_view ms)) = member-less ms i m (omega arith) c.member-item.is in
    let all : MembersHaveNumbers (members_view ms) = search rules in
    let numbers : HasNumbers (value_view m.1) = member-numbers ms i m (omega arith) c.member-item.is all in
    search rules

pub push_each-loop-member-preserved : goal.push_each-loop-member-preserved
push_each-loop-member-preserved t c =
    flat-next c.args.front.now c.in_ok-name.name.now c.args.members.now c.loop-member.member-index c.member-item.result
    (members_view c.args.flat.now.items) (members_view c.loop-member.flat.items) (members_view c.push_flat.new.flat.items)
    (omega arith) c.member-item.is c.in_ok-name.ensures c.in_ok-push_flat.ensures c.loop-member.invariant

pub push_flat-returns : goal.push_flat-returns
push_flat-returns t c =
    let name = c.args.name.now in
    let value = c.args.value.now in
    let made = c.match-value.leaf in
    let old = members_view c.args.flat.now.items in
    let added = ap members_view c.in_ok-push.ensures.items ∙ pushed c.args.flat.now.items (c.args.name, made) in
    elim c.match-value.branch [
      | push_flat-in-Array+in_ok-text_of-in-Array w ↦ added ∙ ap (joined old) (leaf-array name value made _ _ w.in-Array.is w.leaf-is w.in_ok-text_of-in-Array.ensures)
      | push_flat-in-Null w ↦ added ∙ ap (joined old) (leaf-null name value made w.in-Null.is w.leaf-is)
      | push_flat-in-Bool w ↦ added ∙ ap (joined old) (leaf-boolean name value made _ w.in-Bool.is w.leaf-is)
      | push_flat-in-Number+in_ok-try_alloc_str-in-Number w ↦ added ∙ ap (joined old) (leaf-number name value made _ _ w.in-Number.is w.leaf-is w.in_ok-try_alloc_str-in-Number.ensures)
      | push_flat-in-String+in_ok-try_alloc_str-in-String w ↦ added ∙ ap (joined old) (leaf-string name value made _ _ w.in-String.is w.leaf-is w.in_ok-try_alloc_str-in-String.ensures)
    ]
