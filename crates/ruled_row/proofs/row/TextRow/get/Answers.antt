use Rattle.std.proofs.Common.{List, ℕ, sym, subst}
use Rattle.std.specs.Str.{IsCharBoundary}
use Rattle.std.proofs.lemmas.Str.{IsUtf8-string_bytes}
use Rattle.csv.specs.Records.{Row}
use Rattle.ruled_row.specs.Rows.{row_of}
use Rattle.ruled_row.proofs.RowFacts.{part_bounds, part_cuts, part_none, part_value}
use Rattle.ruled_row.proofs.row.TextRow.get.Goals as goal

pub returns-in-None-clause-value : goal.returns-in-None-clause-value
returns-in-None-clause-value c = rw (← c.self.view_is) (part_none (row_of c.self.inside) c.args.place c.in-None.ensures)

pub returns-in-Some-clause-value : goal.returns-in-Some-clause-value
returns-in-Some-clause-value c =
    let row : Row = row_of c.self.inside in
    rw (← c.self.view_is, c.range.ensures.value, c.deref.ensures) (part_value row c.args.place c.in-Some.start c.in-Some.end c.in-Some.ensures)

pub range-requires-clause-start_le_end : goal.range-requires-clause-start_le_end
range-requires-clause-start_le_end c = (part_bounds (row_of c.self.inside) c.args.place c.in-Some.start c.in-Some.end c.in-Some.ensures c.self.invariant.0.0).0

pub range-requires-clause-start_boundary : goal.range-requires-clause-start_boundary
range-requires-clause-start_boundary c = λ some.
    let cuts = part_cuts (row_of c.self.inside) c.args.place c.in-Some.start c.in-Some.end c.in-Some.ensures c.self.invariant.0 c.self.invariant.1 (IsUtf8-string_bytes c.self.inside.text) in
    subst (λ (bytes : List ℕ). IsCharBoundary bytes c.in-Some.start) (sym c.deref.ensures) cuts.0

pub range-requires-clause-end_boundary : goal.range-requires-clause-end_boundary
range-requires-clause-end_boundary c =
    let cuts = part_cuts (row_of c.self.inside) c.args.place c.in-Some.start c.in-Some.end c.in-Some.ensures c.self.invariant.0 c.self.invariant.1 (IsUtf8-string_bytes c.self.inside.text) in
    subst (λ (bytes : List ℕ). IsCharBoundary bytes c.in-Some.end) (sym c.deref.ensures) cuts.1
