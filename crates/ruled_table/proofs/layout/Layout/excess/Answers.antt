use Rattle.std.proofs.Common.{◌≡◌, ◌∙◌, ℕ, true, false, [], length, nat_lt, slice_index_or, string_bytes, Option, Some, None, refl, sym, ap, subst, arith, rules}
use Rattle.std.specs.Prelude.{if◌then◌else◌}
use Rattle.std.specs.Option.{option_and_then}
use Rattle.pg_picture.specs.Sizes.{if_fits, sized}
use Rattle.pg_picture.specs.Table.{full_width, total_width}
use Rattle.ruled_table.specs.Layouts.{table_of, Measures, Plan, plan_in}
use Rattle.ruled_table.specs.View.{excess_of}
use Rattle.ruled_table.proofs.layout.Layout.excess.Goals as goal

-- the table of no rows is as wide, whatever the heights are
same-width : (plan : Plan) (height : ℕ → ℕ) → full_width (sized plan.config plan.width height 0 (length plan.places)) ≡ full_width (table_of plan [])
unfolding full_width total_width
same-width plan height = refl

-- what is known of its width, is told
told : (width : ℕ) (plan : Plan) (height : ℕ → ℕ) (line : Option ℕ) → line ≡ if_fits (full_width (sized plan.config plan.width height 0 (length plan.places)))
    → option_and_then (λ line. if nat_lt width line then Some line else None) line ≡ excess_of (Some width) plan
told width plan height line is = ap (option_and_then (λ line. if nat_lt width line then Some line else None)) (is ∙ ap if_fits (same-width plan height))

pub returns-in_err-line : goal.returns-in_err-line
returns-in_err-line c =
    let inside : Measures = record { places = c.self.inside.places.items; config = c.self.inside.config; widths = c.self.inside.widths.0.items; note = string_bytes c.self.inside.note; extents = c.self.inside.extents.items } in
    let tall : ℕ → ℕ = λ row. slice_index_or c.self.inside.widths.1.items row 0 in
    let count : c.len.result ≡ length inside.places = omega (arith, c.len.ensures, c.self.inside.places.ok) in
    let none : c.full_width.result ≡ None = search rules in
    let asked : c.args.width ≡ Some c.in_ok-width.field-0 = search rules in
    let given : c.from_residual-in_err-line.result ≡ None = search rules in
    let nothing : Option ℕ = None in
    let is = rw count at c.full_width.ensures in
    given ∙ subst (λ (m : Measures). nothing ≡ excess_of (Some c.in_ok-width.field-0) (plan_in m)) c.self.view_is (told c.in_ok-width.field-0 (plan_in inside) tall None (sym none ∙ is)) ∙ ap (λ (w : Option ℕ). excess_of w (plan_in c.args.self.now)) (sym asked)

pub returns-then-line-width : goal.returns-then-line-width
returns-then-line-width c =
    let inside : Measures = record { places = c.self.inside.places.items; config = c.self.inside.config; widths = c.self.inside.widths.0.items; note = string_bytes c.self.inside.note; extents = c.self.inside.extents.items } in
    let tall : ℕ → ℕ = λ row. slice_index_or c.self.inside.widths.1.items row 0 in
    let count : c.len.result ≡ length inside.places = omega (arith, c.len.ensures, c.self.inside.places.ok) in
    let some : c.full_width.result ≡ Some c.in_ok-line.line = search rules in
    let asked : c.args.width ≡ Some c.in_ok-width.field-0 = search rules in
    let more : nat_lt c.in_ok-width.field-0 c.in_ok-line.line ≡ true = search rules in
    let is = rw count at c.full_width.ensures in
    let known = told c.in_ok-width.field-0 (plan_in inside) tall (Some c.in_ok-line.line) (sym some ∙ is) in
    subst (λ (m : Measures). Some c.in_ok-line.line ≡ excess_of (Some c.in_ok-width.field-0) (plan_in m)) c.self.view_is (rw more at known) ∙ ap (λ (w : Option ℕ). excess_of w (plan_in c.args.self.now)) (sym asked)

pub returns-else-line-width : goal.returns-else-line-width
returns-else-line-width c =
    let inside : Measures = record { places = c.self.inside.places.items; config = c.self.inside.config; widths = c.self.inside.widths.0.items; note = string_bytes c.self.inside.note; extents = c.self.inside.extents.items } in
    let tall : ℕ → ℕ = λ row. slice_index_or c.self.inside.widths.1.items row 0 in
    let count : c.len.result ≡ length inside.places = omega (arith, c.len.ensures, c.self.inside.places.ok) in
    let some : c.full_width.result ≡ Some c.in_ok-line.line = search rules in
    let asked : c.args.width ≡ Some c.in_ok-width.field-0 = search rules in
    let met : nat_lt c.in_ok-width.field-0 c.in_ok-line.line ≡ false = search rules in
    let is = rw count at c.full_width.ensures in
    let known = told c.in_ok-width.field-0 (plan_in inside) tall (Some c.in_ok-line.line) (sym some ∙ is) in
    let nothing : Option ℕ = None in
    subst (λ (m : Measures). nothing ≡ excess_of (Some c.in_ok-width.field-0) (plan_in m)) c.self.view_is (rw met at known) ∙ ap (λ (w : Option ℕ). excess_of w (plan_in c.args.self.now)) (sym asked)
