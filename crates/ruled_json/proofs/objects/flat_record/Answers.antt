use Rattle.std.proofs.Common.{◌∙◌, Global, List, ℕ, [], ap, sym}
use Rattle.std.specs.Borrow.{Bor}
use Rattle.json.proofs.Trees.{view-Object}
use Rattle.json.specs.Value.{members_view, value_view}
use Rattle.json.specs.declared.value.Value.{Value}
use Rattle.ruled_json.proofs.Flat.{of_object}
use Rattle.ruled_json.specs.Rows.{flat_members, flat_record, joined}
use Rattle.ruled_json.proofs.objects.flat_record.Goals as goal

pub returns : goal.returns
returns c =
    let new = c.push_each.new.flat in
    let made =
    c.in_ok-push_each.ensures ∙ ap (λ (ms : List (Bor (List ℕ) × Value Global)). joined (members_view ms) (flat_members [] (members_view c.as_slice.result.now))) c.new-flat.ensures.items
    ∙ ap (λ (ms : List (Bor (List ℕ) × Value Global)). flat_members [] (members_view ms)) c.as_slice.ensures.value in
    view-Object new ∙ of_object c.in-Object.members (members_view new.items) made ∙ ap (λ (value : Value Global). flat_record (value_view value)) (sym c.in-Object.is)
