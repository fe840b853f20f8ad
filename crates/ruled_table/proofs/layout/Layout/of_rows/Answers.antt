use Rattle.std.proofs.Common.{◌≡◌, ◌∙◌, List, map, take, sym, ap, subst}
use Rattle.std.specs.Prelude.{IfOk}
use Rattle.std.proofs.lemmas.List.{take-map}
use Rattle.csv.specs.Records.{Row, fields_of}
use Rattle.pg_layout.specs.Text.{Text}
use Rattle.ruled_table.specs.Tables.{Tells}
use Rattle.ruled_table.specs.Layouts.{layout_fault, layout_of, plan_in}
use Rattle.ruled_table.proofs.layout.Layout.of_rows.Goals as goal

pub of_standing-requires : goal.of_standing-requires
of_standing-requires c =
    let first : c.first_of.result.now ≡ take c.args.count c.args.rows.now.items = c.first_of.ensures ∙ ap (take c.args.count) c.deref.ensures.value in
    rw first at (c.rows_stand.ensures c.if-rows_stand.true)

pub returns-then-rows_stand-clause-layout : goal.returns-then-rows_stand-clause-layout
returns-then-rows_stand-clause-layout c =
    subst (λ (xs : List (List Text)). IfOk c.of_standing.result (λ layout. plan_in layout ≡ layout_of c.args.options.now xs)) (sym (take-map fields_of c.args.count c.args.rows.now.items)) c.of_standing.ensures.layout

pub returns-then-rows_stand-clause-fault : goal.returns-then-rows_stand-clause-fault
returns-then-rows_stand-clause-fault c =
    subst (λ (xs : List (List Text)). Tells (layout_fault c.args.options.now xs) c.of_standing.result) (sym (take-map fields_of c.args.count c.args.rows.now.items)) c.of_standing.ensures.fault

pub returns-clause-layout : goal.returns-clause-layout
returns-clause-layout c =
    let first : map fields_of c.first_of-2.result.now ≡ take c.args.count (map fields_of c.args.rows.now.items) =
    ap (map fields_of) (c.first_of-2.ensures ∙ ap (take c.args.count) c.deref-2.ensures.value) ∙ sym (take-map fields_of c.args.count c.args.rows.now.items)
    in
    subst (λ (xs : List (List Text)). IfOk c.of_copies.result (λ layout. plan_in layout ≡ layout_of c.args.options.now xs)) first c.of_copies.ensures.layout

pub returns-clause-fault : goal.returns-clause-fault
returns-clause-fault c =
    let first : map fields_of c.first_of-2.result.now ≡ take c.args.count (map fields_of c.args.rows.now.items) =
    ap (map fields_of) (c.first_of-2.ensures ∙ ap (take c.args.count) c.deref-2.ensures.value) ∙ sym (take-map fields_of c.args.count c.args.rows.now.items)
    in
    subst (λ (xs : List (List Text)). Tells (layout_fault c.args.options.now xs) c.of_copies.result) first c.of_copies.ensures.fault
