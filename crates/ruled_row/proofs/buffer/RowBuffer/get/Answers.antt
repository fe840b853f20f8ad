use Rattle.std.proofs.Common.{◌≡◌, ◌≤◌, List, ℕ, length, sym, ap, subst, arith, Some}
use Rattle.csv.specs.Records.{Row}
use Rattle.ruled_row.specs.Parts.{IsPart}
use Rattle.ruled_row.specs.Rows.{buffer_of}
use Rattle.ruled_row.proofs.RowFacts.{part_bounds, part_none, part_value}
use Rattle.ruled_row.proofs.buffer.RowBuffer.get.Goals as goal

pub returns-in-None-clause-value : goal.returns-in-None-clause-value
returns-in-None-clause-value c =
    let row : Row = buffer_of c.self.inside in
    rw (← c.self.view_is) (part_none row c.args.place (subst (λ (ends : List ℕ). length ends ≤ c.args.place) c.deref.ensures.value c.in-None.ensures))

pub returns-in-Some-clause-value : goal.returns-in-Some-clause-value
returns-in-Some-clause-value c =
    let row : Row = buffer_of c.self.inside in
    let part : IsPart row.ends c.args.place (Some (c.in-Some.start, c.in-Some.end)) = subst (λ (ends : List ℕ). IsPart ends c.args.place (Some (c.in-Some.start, c.in-Some.end))) c.deref.ensures.value c.in-Some.ensures in
    rw (← c.self.view_is, c.deref-in-Some.ensures.value) (part_value row c.args.place c.in-Some.start c.in-Some.end part)

pub slice_bounds-result-count : goal.slice_bounds-result-count
slice_bounds-result-count c =
    let row : Row = buffer_of c.self.inside in
    let part : IsPart row.ends c.args.place (Some (c.in-Some.start, c.in-Some.end)) = subst (λ (ends : List ℕ). IsPart ends c.args.place (Some (c.in-Some.start, c.in-Some.end))) c.deref.ensures.value c.in-Some.ensures in
    (part_bounds row c.args.place c.in-Some.start c.in-Some.end part c.self.invariant).0

pub slice_bounds-result-start : goal.slice_bounds-result-start
slice_bounds-result-start c =
    let row : Row = buffer_of c.self.inside in
    let part : IsPart row.ends c.args.place (Some (c.in-Some.start, c.in-Some.end)) = subst (λ (ends : List ℕ). IsPart ends c.args.place (Some (c.in-Some.start, c.in-Some.end))) c.deref.ensures.value c.in-Some.ensures in
    let bounds = part_bounds row c.args.place c.in-Some.start c.in-Some.end part c.self.invariant in
    omega (arith, bounds.0, bounds.1, ap length c.deref-in-Some.ensures.value)

pub slice_bounds-result-end : goal.slice_bounds-result-end
slice_bounds-result-end c =
    let row : Row = buffer_of c.self.inside in
    let part : IsPart row.ends c.args.place (Some (c.in-Some.start, c.in-Some.end)) = subst (λ (ends : List ℕ). IsPart ends c.args.place (Some (c.in-Some.start, c.in-Some.end))) c.deref.ensures.value c.in-Some.ensures in
    let bounds = part_bounds row c.args.place c.in-Some.start c.in-Some.end part c.self.invariant in
    omega (arith, bounds.0, bounds.1, ap length c.deref-in-Some.ensures.value)
