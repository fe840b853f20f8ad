use Rattle.std.proofs.Common.{◌∙◌, ℕ, List, Bor, ap, arith, option_map, refl}
use Rattle.std.specs.Str.{bytes_eq}
use Rattle.std.specs.Map.{lookup}
use Rattle.std.proofs.lemmas.List.{take_all}
use Rattle.json.specs.Find.{get_member}
use Rattle.json.specs.Value.{members_view, value_view}
use Rattle.ruled_json.proofs.Tables.{named_next}
use Rattle.ruled_json.proofs.member_names.members_by_name.Goals as goal

pub loop-member-init : goal.loop-member-init
loop-member-init c = λ name. ap (λ entries. option_map (λ v. value_view v.now) (lookup (λ known. bytes_eq name known.now) entries)) c.in_ok-members.ensures.empty

pub loop-member-preserved : goal.loop-member-preserved
loop-member-preserved c = λ name.
    let asked : Bor (List ℕ) = record { ref_ptr = (0, 0); now = name } in
    named_next c.members_of-list.result.now c.loop-member.member-index c.member-item.result name _ _ _ (omega arith) c.member-item.is refl
    (c.in_ok-insert.ensures.updates.0 asked) (c.loop-member.invariant name)

pub returns : goal.returns
returns c = λ name.
    c.loop-member.invariant name
    ∙ ap (λ list. get_member name (members_view list)) (take_all c.loop-member.member-index c.members_of-list.result.now c.loop-member-test.false)
    ∙ c.members_of-list.ensures.members name
