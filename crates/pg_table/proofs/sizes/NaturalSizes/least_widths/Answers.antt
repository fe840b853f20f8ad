use Rattle.std.proofs.Common.{◌≡◌, ℕ, ◌+◌, ◌<◌, ◌≤◌, List, length, map, slice_index, All, Option, Some, None, refl, subst, sym, ap, ◌∙◌}
use Rattle.std.specs.List.{range_with_len}
use Rattle.pg_layout.specs.Records.{text_at}
use Rattle.pg_picture.proofs.OwnersOfPlaces.{InOrder}
use Rattle.pg_table.specs.Spanning.{least_cell_width}
use Rattle.pg_table.specs.Natural.{widened}
use Rattle.pg_table.specs.declared.needs.Need.{Need}
use Rattle.pg_table.proofs.SpannedWidths.{widened-least, length-singles, corner-huge}
use Rattle.pg_table.proofs.ToldRooms.{all-fit, needs-some, needs-inside}
use Rattle.pg_table.proofs.sizes.NaturalSizes.least_widths.Goals as goal

never-some : {X : Type 0} (o : Option X) → ((x : X) → o ≡ Some x → ⊥) → o ≡ None
never-some None never = refl
never-some (Some x) never = absurd (never x refl)

pub least_needs-requires : goal.least_needs-requires
least_needs-requires g c =
    let self = c.args.self.now in
    let texts = g.R.Records.texts self.records in
    all-fit self.config.now (length texts) (g.R.Records.columns self.records) (least_cell_width c.args.how self.config.now (text_at texts)) (λ k. 0) c.requires

pub widened-requires-clause-some : goal.widened-requires-clause-some
widened-requires-clause-some g c =
    let self = c.args.self.now in
    let texts = g.R.Records.texts self.records in
    let columns : ℕ = g.R.Records.columns self.records in
    subst (λ xs. All (λ (need : Need). 0 < need.count) xs) (sym (c.deref_mut-2.ensures.value ∙ (rw c.in-Some-2.is at c.in_ok-needs.ensures.needs))) (needs-some self.config.now (length texts) columns (least_cell_width c.args.how self.config.now (text_at texts)) (λ k. 0) c.requires)

pub widened-requires-clause-inside : goal.widened-requires-clause-inside
widened-requires-clause-inside g c =
    let self = c.args.self.now in
    let texts = g.R.Records.texts self.records in
    let columns : ℕ = g.R.Records.columns self.records in
    let long = length-singles c.args.how self.config.now texts columns _ (c.deref_mut.ensures.value ∙ (rw c.in-Some.is at c.in_ok-singles.ensures.widths)) in
    subst (λ m. All (λ (need : Need). need.first + need.count ≤ m) c.deref_mut-2.result.now) (sym long)
    (subst (λ xs. All (λ (need : Need). need.first + need.count ≤ columns) xs) (sym (c.deref_mut-2.ensures.value ∙ (rw c.in-Some-2.is at c.in_ok-needs.ensures.needs))) (needs-inside self.config.now (length texts) columns (least_cell_width c.args.how self.config.now (text_at texts)) (λ k. 0) c.requires))

pub returns-clause-widths : goal.returns-clause-widths
returns-clause-widths g c =
    let self = c.args.self.now in
    let texts = g.R.Records.texts self.records in
    let columns : ℕ = g.R.Records.columns self.records in
    let s : List ℕ = c.deref_mut.result.now in
    let is = c.deref_mut.ensures.value ∙ (rw c.in-Some.is at c.in_ok-singles.ensures.widths) in
    let ns = c.deref_mut-2.ensures.value ∙ (rw c.in-Some-2.is at c.in_ok-needs.ensures.needs) in
    c.in_ok-widened.ensures
    ∙ ap (λ (m : ℕ). map (widened (slice_index s) c.deref_mut-2.result.now m) (range_with_len 0 m)) (length-singles c.args.how self.config.now texts columns s is)
    ∙ ap (λ (xs : List Need). map (widened (slice_index s) xs columns) (range_with_len 0 columns)) ns
    ∙ widened-least c.args.how self.config.now texts columns c.requires s is

pub returns-in_default-clause-huge : goal.returns-in_default-clause-huge
returns-in_default-clause-huge g c = λ none. c.in_ok-singles.ensures.huge (never-some c.in_ok-singles.field-0 c.in_default.not-Some)

pub returns-in_default-2-clause-huge : goal.returns-in_default-2-clause-huge
returns-in_default-2-clause-huge g c = λ none.
    let self = c.args.self.now in
    let texts = g.R.Records.texts self.records in
    let columns : ℕ = g.R.Records.columns self.records in
    let order : InOrder self.config.now.spans (length texts) columns = record { ascending = c.spans-spans.ensures.ascending; fit = c.requires } in
    corner-huge c.args.how self.config.now texts columns order (sym (rw (never-some c.in_ok-needs.field-0 c.in_default-2.not-Some) at c.in_ok-needs.ensures.sized))
