use Rattle.std.proofs.Common.{◌≡◌, ◌<◌, ◌∙◌, ◌-◌, ◌^◌, ℕ, List, None, Option, length, map, take, refl, sym, ap, subst, true, false, arith}
use Rattle.std.specs.Prelude.{if◌then◌else◌}
use Rattle.std.specs.Option.{option_or}
use Rattle.std.proofs.lemmas.Bool.{eqb-true}
use Rattle.std.proofs.lemmas.List.{length-map, nil_from_length, take_all}
use Rattle.csv.specs.Records.{fields_of}
use Rattle.pg_layout.specs.Text.{Text}
use Rattle.ruled_table.specs.View.{blocks_fault, blocks_text, all_excess, all_fault, all_text, shows_blocks, whole_table}
use Rattle.ruled_table.specs.Columns.{column_fault}
use Rattle.ruled_table.specs.Layouts.{is_in_blocks, plan_in, layout_fault, layout_of, start_fault}
use Rattle.ruled_table.specs.declared.view.ViewFault.{ViewFault}
use Rattle.ruled_io.specs.Stream.{Draws}
use Rattle.ruled_io.proofs.Shows.{blocks-excess, draws-with, excess-measured, measured-wrong, none-draws, none-excess, returned-with, same-draws, told-with, view-draws, above-none}
use Rattle.ruled_io.proofs.at_once.show_measured.Goals as goal

abbrev no-width : Option ℕ
no-width = None

pub returns-then-is_empty-clause-draws : goal.returns-then-is_empty-clause-draws
returns-then-is_empty-clause-draws g c = λ named never.
    let given : List (List Text) = map fields_of c.args.rows.items in
    let zero : length given ≡ 0 = omega (arith, eqb-true _ 0 (sym c.is_empty.ensures ∙ c.if-is_empty.true), c.args.rows.ok, length-map c.args.rows.items fields_of) in
    none-draws c.args.options.now given (g.W.Write.contents c.args.out.now.writer) (nil_from_length given zero)

pub returns-in_err-layout-clause-draws : goal.returns-in_err-layout-clause-draws
returns-in_err-layout-clause-draws g c = λ named never.
    let given : List (List Text) = map fields_of c.args.rows.items in
    let options = c.args.options.now in
    let some : 0 < length given = omega (arith, above-none _ (sym c.is_empty.ensures ∙ c.if-is_empty.false), c.args.rows.ok, length-map c.args.rows.items fields_of) in
    let all : take (2 ^ 64 - 1) given ≡ given = take_all (2 ^ 64 - 1) given (omega (arith, c.args.rows.ok, length-map c.args.rows.items fields_of)) in
    view-draws (all_text options given) (all_fault options given) (g.W.Write.contents c.args.out.now.writer) c.in_err-layout.field-0.0 c.from_residual.result
    (λ kept. measured-wrong options given some never
    ∙ ap (λ (w : Option ViewFault). option_or w (if shows_blocks options given then blocks_fault options given else start_fault (layout_of options given))) (ap (layout_fault options) (sym all) ∙ c.in_err-layout.ensures.fault kept))
    c.from_residual.ensures.1

pub returns-then-is_in_blocks-clause-draws : goal.returns-then-is_in_blocks-clause-draws
returns-then-is_in_blocks-clause-draws g c = λ named never.
    let given : List (List Text) = map fields_of c.args.rows.items in
    let options = c.args.options.now in
    let old = g.W.Write.contents c.args.out.now.writer in
    let new = g.W.Write.contents c.show_blocks.new.out.writer in
    let some : 0 < length given = omega (arith, above-none _ (sym c.is_empty.ensures ∙ c.if-is_empty.false), c.args.rows.ok, length-map c.args.rows.items fields_of) in
    let all : take (2 ^ 64 - 1) given ≡ given = take_all (2 ^ 64 - 1) given (omega (arith, c.args.rows.ok, length-map c.args.rows.items fields_of)) in
    let fine : layout_fault options given ≡ None = ap (layout_fault options) (sym all) ∙ c.in_ok-layout.ensures.fault in
    let laid : plan_in c.in_ok-layout.layout ≡ layout_of options given = c.in_ok-layout.ensures.layout ∙ ap (layout_of options) all in
    let turned : shows_blocks options given ≡ true = ap (is_in_blocks options.vertical) (sym laid) ∙ sym c.is_in_blocks.ensures ∙ c.if-is_in_blocks.true in
    let text : blocks_text options given ≡ all_text options given = rw turned refl in
    let wrong : blocks_fault options given ≡ all_fault options given = sym (measured-wrong options given some never ∙ rw (fine, turned) refl) in
    let rows : map fields_of c.deref.result.now ≡ given = ap (map fields_of) c.deref.ensures.value ∙ c.in_ok-layout.ensures.rows in
    let drawn : Draws (blocks_text options given) (blocks_fault options given) old new c.show_blocks.result =
    subst (λ (rs : List (List Text)). column_fault options.columns.items rs ≡ None → Draws (blocks_text options rs) (blocks_fault options rs) old new c.show_blocks.result) rows c.show_blocks.ensures.draws named
    in
    draws-with (all_text options given) (all_fault options given) old new c.show_blocks.result no-width c.and.result c.and.ensures
    (same-draws (blocks_text options given) (all_text options given) (blocks_fault options given) (all_fault options given) old new c.show_blocks.result text wrong drawn)

pub returns-clause-draws : goal.returns-clause-draws
returns-clause-draws g c = λ named never.
    let given : List (List Text) = map fields_of c.args.rows.items in
    let options = c.args.options.now in
    let old = g.W.Write.contents c.args.out.now.writer in
    let new = g.W.Write.contents c.show_table.new.out.writer in
    let some : 0 < length given = omega (arith, above-none _ (sym c.is_empty.ensures ∙ c.if-is_empty.false), c.args.rows.ok, length-map c.args.rows.items fields_of) in
    let all : take (2 ^ 64 - 1) given ≡ given = take_all (2 ^ 64 - 1) given (omega (arith, c.args.rows.ok, length-map c.args.rows.items fields_of)) in
    let fine : layout_fault options given ≡ None = ap (layout_fault options) (sym all) ∙ c.in_ok-layout.ensures.fault in
    let laid : plan_in c.in_ok-layout.layout ≡ layout_of options given = c.in_ok-layout.ensures.layout ∙ ap (layout_of options) all in
    let flat : shows_blocks options given ≡ false = ap (is_in_blocks options.vertical) (sym laid) ∙ sym c.is_in_blocks.ensures ∙ c.if-is_in_blocks.false in
    let text : whole_table options given ≡ all_text options given = rw flat refl in
    let wrong : start_fault (layout_of options given) ≡ all_fault options given = sym (measured-wrong options given some never ∙ rw (fine, flat) refl) in
    let rows : map fields_of c.deref-2.result.now ≡ given = ap (map fields_of) c.deref-2.ensures.value ∙ c.in_ok-layout.ensures.rows in
    let drawn : Draws (whole_table options given) (start_fault (layout_of options given)) old new c.show_table.result =
    subst (λ (rs : List (List Text)). plan_in c.in_ok-layout.layout ≡ layout_of options rs → Draws (whole_table options rs) (start_fault (layout_of options rs)) old new c.show_table.result) rows c.show_table.ensures.draws laid
    in
    draws-with (all_text options given) (all_fault options given) old new c.show_table.result c.excess-wide.result c.and-shown.result c.and-shown.ensures
    (same-draws (whole_table options given) (all_text options given) (start_fault (layout_of options given)) (all_fault options given) old new c.show_table.result text wrong drawn)

pub returns-then-is_in_blocks-clause-told : goal.returns-then-is_in_blocks-clause-told
returns-then-is_in_blocks-clause-told g c = told-with _ _ c.show_blocks.result no-width c.and.result c.and.ensures c.show_blocks.ensures.told

pub returns-clause-told : goal.returns-clause-told
returns-clause-told g c = told-with _ _ c.show_table.result c.excess-wide.result c.and-shown.result c.and-shown.ensures c.show_table.ensures.told

pub returns-then-is_empty-clause-wide : goal.returns-then-is_empty-clause-wide
returns-then-is_empty-clause-wide g c =
    let given : List (List Text) = map fields_of c.args.rows.items in
    none-excess c.args.options.now given (omega (arith, eqb-true _ 0 (sym c.is_empty.ensures ∙ c.if-is_empty.true), c.args.rows.ok, length-map c.args.rows.items fields_of))

pub returns-then-is_in_blocks-clause-wide : goal.returns-then-is_in_blocks-clause-wide
returns-then-is_in_blocks-clause-wide g c =
    let given : List (List Text) = map fields_of c.args.rows.items in
    let options = c.args.options.now in
    let all : take (2 ^ 64 - 1) given ≡ given = take_all (2 ^ 64 - 1) given (omega (arith, c.args.rows.ok, length-map c.args.rows.items fields_of)) in
    let laid : plan_in c.in_ok-layout.layout ≡ layout_of options given = c.in_ok-layout.ensures.layout ∙ ap (layout_of options) all in
    let turned : shows_blocks options given ≡ true = ap (is_in_blocks options.vertical) (sym laid) ∙ sym c.is_in_blocks.ensures ∙ c.if-is_in_blocks.true in
    returned-with c.show_blocks.result no-width (all_excess options given) c.and.result c.and.ensures (blocks-excess options given turned)

pub returns-clause-wide : goal.returns-clause-wide
returns-clause-wide g c =
    let given : List (List Text) = map fields_of c.args.rows.items in
    let options = c.args.options.now in
    let some : 0 < length given = omega (arith, above-none _ (sym c.is_empty.ensures ∙ c.if-is_empty.false), c.args.rows.ok, length-map c.args.rows.items fields_of) in
    let all : take (2 ^ 64 - 1) given ≡ given = take_all (2 ^ 64 - 1) given (omega (arith, c.args.rows.ok, length-map c.args.rows.items fields_of)) in
    let laid : plan_in c.in_ok-layout.layout ≡ layout_of options given = c.in_ok-layout.ensures.layout ∙ ap (layout_of options) all in
    let flat : shows_blocks options given ≡ false = ap (is_in_blocks options.vertical) (sym laid) ∙ sym c.is_in_blocks.ensures ∙ c.if-is_in_blocks.false in
    returned-with c.show_table.result c.excess-wide.result (all_excess options given) c.and-shown.result c.and-shown.ensures
    (excess-measured options given (plan_in c.in_ok-layout.layout) c.excess-wide.result some flat laid c.excess-wide.ensures)
