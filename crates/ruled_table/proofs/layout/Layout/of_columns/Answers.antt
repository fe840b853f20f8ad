use Rattle.std.proofs.Common.{◌≡◌, ◌∙◌, ℕ, List, Option, string_bytes, sym, ap, ap₂, subst, rules}
use Rattle.csv.specs.Records.{Row}
use Rattle.pg_config.specs.Config.{Config}
use Rattle.ruled_table.specs.Tables.{totals_of}
use Rattle.ruled_table.specs.Layouts.{plan_fault}
use Rattle.ruled_table.specs.Columns.{texts_at}
use Rattle.ruled_table.specs.Sides.{AreSided}
use Rattle.ruled_table.specs.Widths.{HasSpaces, first_config, widths_fault, widths_in, widths_of}
use Rattle.ruled_table.specs.declared.view.ViewFault.{ViewFault}
use Rattle.ruled_table.proofs.Tables.{first-sides, first-spaces, plain-config, told_on}
use Rattle.ruled_table.proofs.RowsInParts.{plan-made}
use Rattle.ruled_table.proofs.layout.Layout.of_columns.Goals as goal

pub sizes_of_rows-requires-clause-spaces : goal.sizes_of_rows-requires-clause-spaces
sizes_of_rows-requires-clause-spaces c = subst HasSpaces (sym c.in_ok-config.ensures) (first-spaces c.args.options.now _)

pub sizes_of_rows-requires-clause-sided : goal.sizes_of_rows-requires-clause-sided
sizes_of_rows-requires-clause-sided c =
    let options = c.args.options.now in
    let fields : List Row = c.args.rows.fields.now in
    let sided = subst (λ (config : Config). AreSided options config (texts_at c.deref.result.now fields)) (sym c.in_ok-config.ensures) (first-sides options _) in
    sided

pub returns-clause-layout : goal.returns-clause-layout
returns-clause-layout c =
    let options = c.args.options.now in
    let places : List (Option ℕ) = c.args.places.items in
    let fields : List Row = c.args.rows.fields.now in
    let measured : List Row = c.args.rows.measured.now in
    let config : Config = c.in_ok-config.config in
    let at : c.deref.result.now ≡ places = search rules in
    let also : c.deref-2.result.now ≡ places = search rules in
    let looks : config ≡ first_config options (texts_at places fields) = c.in_ok-config.ensures ∙ ap (λ (ps : List (Option ℕ)). first_config options (texts_at ps fields)) at in
    let wide : widths_in c.in_ok-widths.widths ≡ widths_of options config (texts_at places fields) (texts_at places measured) =
    c.in_ok-widths.ensures.widths ∙ ap₂ (λ (ps qs : List (Option ℕ)). widths_of options config (texts_at ps fields) (texts_at qs measured)) at also
    in
    plan-made options c.args.extents.items places (string_bytes c.args.note) (texts_at places fields) (texts_at places measured) config (widths_in c.in_ok-widths.widths) looks wide

pub returns-clause-fault : goal.returns-clause-fault
returns-clause-fault c =
    let options = c.args.options.now in
    let places : List (Option ℕ) = c.args.places.items in
    let fields : List Row = c.args.rows.fields.now in
    let measured : List Row = c.args.rows.measured.now in
    let at : c.deref.result.now ≡ places = search rules in
    let also : c.deref-2.result.now ≡ places = search rules in
    let looks : c.in_ok-config.config ≡ first_config options (texts_at places fields) = c.in_ok-config.ensures ∙ ap (λ (ps : List (Option ℕ)). first_config options (texts_at ps fields)) at in
    let told : Config → List (Option ℕ) → List (Option ℕ) → Option ViewFault = λ config ps qs. totals_of (widths_fault options config (texts_at ps fields) (texts_at qs measured)) in
    sym (ap₂ (told c.in_ok-config.config) at also ∙ ap (λ (config : Config). told config places places) looks) ∙ c.in_ok-widths.ensures.fault

pub returns-in_err-widths-clause-fault : goal.returns-in_err-widths-clause-fault
returns-in_err-widths-clause-fault c =
    let options = c.args.options.now in
    let places : List (Option ℕ) = c.args.places.items in
    let fields : List Row = c.args.rows.fields.now in
    let measured : List Row = c.args.rows.measured.now in
    let at : c.deref.result.now ≡ places = search rules in
    let also : c.deref-2.result.now ≡ places = search rules in
    let looks : c.in_ok-config.config ≡ first_config options (texts_at places fields) = c.in_ok-config.ensures ∙ ap (λ (ps : List (Option ℕ)). first_config options (texts_at ps fields)) at in
    let told : Config → List (Option ℕ) → List (Option ℕ) → Option ViewFault = λ config ps qs. totals_of (widths_fault options config (texts_at ps fields) (texts_at qs measured)) in
    told_on c.in_err-widths.field-0.0 (plan_fault options (texts_at places fields) (texts_at places measured)) c.from_residual-in_err-widths.result
    (λ soft. sym (ap₂ (told c.in_ok-config.config) at also ∙ ap (λ (config : Config). told config places places) looks) ∙ c.in_err-widths.ensures.fault soft) c.from_residual-in_err-widths.ensures.1

pub invariant_of-result : goal.invariant_of-result
invariant_of-result c = ap (λ (config : Config). config.spans) c.in_ok-config.ensures ∙ plain-config c.args.options.now _
