use Rattle.std.proofs.Common.{◌≡◌, ◌∙◌, ◌<◌, ℕ, length, None, Option, false, refl, subst, sym, ap, arith, slice_index_or, string_bytes}
use Rattle.pg_stream.specs.SizedStreams.{sized_misfit}
use Rattle.ruled_table.specs.Tables.{Tells}
use Rattle.ruled_table.specs.Layouts.{start_fault, start_of, Measures, Plan, plan_in, with_colors}
use Rattle.ruled_table.specs.RowLines.{state_of}
use Rattle.ruled_table.specs.Shown.{color_in}
use Rattle.ruled_table.specs.declared.view.ViewFault.{ViewFault}
use Rattle.ruled_table.proofs.Tables.{fits-all, fits-made, none-started, some-columns, start-colored, started}
use Rattle.ruled_table.proofs.row_lines.RowLines.new.Goals as goal

pub returns-in_err-sheet-clause-fault : goal.returns-in_err-sheet-clause-fault
returns-in_err-sheet-clause-fault c =
    let inside : Measures = record { places = c.layout.inside.places.items; config = c.layout.inside.config; widths = c.layout.inside.widths.0.items; note = string_bytes c.layout.inside.note; extents = c.layout.inside.extents.items } in
    let plan : Plan = with_colors (color_in c.args.colors.now) (plan_in inside) in
    let tall : ℕ → ℕ = λ row. slice_index_or c.layout.inside.widths.1.items row 0 in
    let count : c.len.result ≡ length inside.places = omega (arith, c.len.ensures, c.layout.inside.places.ok) in
    let whole = rw count at c.in_err-sheet.ensures.whole in
    subst (λ (m : Measures). Tells (start_fault (plan_in m)) c.from_residual.result) c.layout.view_is
    (subst (λ (w : Option ViewFault). Tells w c.from_residual.result) (start-colored (plan_in inside) (color_in c.args.colors.now))
    (none-started plan tall c.in_err-sheet.field-0.0 c.from_residual.result (λ fits. whole fits c.in_err-sheet.field-0.0 refl) c.from_residual.ensures.1))

pub returns-clause-begun : goal.returns-clause-begun
returns-clause-begun c =
    let inside : Measures = record { places = c.layout.inside.places.items; config = c.layout.inside.config; widths = c.layout.inside.widths.0.items; note = string_bytes c.layout.inside.note; extents = c.layout.inside.extents.items } in
    let plan : Plan = with_colors (color_in c.args.colors.now) (plan_in inside) in
    let tall : ℕ → ℕ = λ row. slice_index_or c.layout.inside.widths.1.items row 0 in
    let count : c.len.result ≡ length inside.places = omega (arith, c.len.ensures, c.layout.inside.places.ok) in
    let fits : sized_misfit (start_of plan tall) ≡ None = fits-made (sized_misfit (start_of plan tall)) _ tt (rw count at c.in_ok-sheet.ensures.misfit) in
    record {
      some = subst (λ (m : Measures). 0 < length m.places) c.layout.view_is (some-columns plan tall fits);
      plain = ap (λ (m : Measures). m.config.spans) (sym c.layout.view_is) ∙ c.layout.invariant;
      noted = c.as_str.ensures.value ∙ ap (λ (m : Measures). m.note) c.layout.view_is;
      begun = refl;
      prints = started (with_colors (color_in c.args.colors.now) (plan_in c.args.layout.now)) (λ heights. state_of heights c.in_ok-sheet.sheet)
          (subst (λ (m : Measures). (heights : ℕ → ℕ) → state_of heights c.in_ok-sheet.sheet ≡ record { printed = start_of (with_colors (color_in c.args.colors.now) (plan_in m)) heights; is_lost = false }) c.layout.view_is (rw count at c.in_ok-sheet.ensures.made));
    }

pub returns-clause-fault : goal.returns-clause-fault
returns-clause-fault c =
    let inside : Measures = record { places = c.layout.inside.places.items; config = c.layout.inside.config; widths = c.layout.inside.widths.0.items; note = string_bytes c.layout.inside.note; extents = c.layout.inside.extents.items } in
    let plan : Plan = with_colors (color_in c.args.colors.now) (plan_in inside) in
    let tall : ℕ → ℕ = λ row. slice_index_or c.layout.inside.widths.1.items row 0 in
    let count : c.len.result ≡ length inside.places = omega (arith, c.len.ensures, c.layout.inside.places.ok) in
    let fits : sized_misfit (start_of plan tall) ≡ None = fits-made (sized_misfit (start_of plan tall)) _ tt (rw count at c.in_ok-sheet.ensures.misfit) in
    subst (λ (m : Measures). start_fault (plan_in m) ≡ None) c.layout.view_is (sym (start-colored (plan_in inside) (color_in c.args.colors.now)) ∙ fits-all plan tall fits)
