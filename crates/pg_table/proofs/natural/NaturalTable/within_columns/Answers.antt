use Rattle.std.proofs.Common.{◌≡◌, ◌<◌, ◌-◌, ◌^◌, ◌==◌, ◌||◌, ℕ, true, false, List, length, Some, None, Result, Ok, Err, IfOk, is_ok, refl, sym, ap, subst, ◌∙◌, arith}
use Rattle.std.proofs.lemmas.Bool.{false≢true}
use Rattle.pg_layout.specs.Records.{text_at}
use Rattle.pg_layout.specs.Text.{Text}
use Rattle.pg_config.specs.Config.{Config}
use Rattle.pg_picture.specs.Fits.{spans_fit}
use Rattle.pg_table.specs.Fitted.{fitted_table, printed_fitted_table}
use Rattle.pg_table.specs.Natural.{cells_fit}
use Rattle.pg_table.specs.Printing.{sizes_fault, sizes_of}
use Rattle.pg_table.specs.declared.fault.TableFault.{TableFault}
use Rattle.pg_table.specs.declared.sizes.Axis.TheVariants.{Columns}
use Rattle.pg_table.proofs.Faults.{fault-is}
use Rattle.pg_table.proofs.FitFaults.{fault-empty, told-fits, told-none, handed-on, not-both}
use Rattle.pg_table.proofs.FittedTables.{told-fault, told-memory, err-same, sized-fits, if-ok, bound-of, ranged-empty, ranged-least}
use Rattle.pg_table.proofs.natural.NaturalTable.within_columns.Goals as goal

pub returns-then-is_empty-clause-table : goal.returns-then-is_empty-clause-table
returns-then-is_empty-clause-table g c =
    let self = c.args.self.now in
    let texts = g.R.Records.texts self.records in
    let columns : ℕ = g.R.Records.columns self.records in
    let color = g.C.Colors.color self.colors.now in
    let empty : ((length texts == 0) || (columns == 0)) ≡ true = sym c.is_empty.ensures ∙ c.if-is_empty.true in
    subst (λ t. IfOk c.within.result (λ fitted. printed_fitted_table g.R.Records.texts g.R.Records.columns g.C.Colors.color fitted ≡ t)) (ranged-empty c.args.how self.config.now texts columns c.args.ranges.now empty c.args.width c.args.width color) c.within.ensures.table

pub returns-then-is_empty-clause-bound : goal.returns-then-is_empty-clause-bound
returns-then-is_empty-clause-bound g c = λ plain.
    let self = c.args.self.now in
    let texts = g.R.Records.texts self.records in
    let columns : ℕ = g.R.Records.columns self.records in
    if-ok _ _ c.within.result (λ fitted low. omega (arith, low, ranged-least c.args.how self.config.now texts columns c.args.ranges.now)) (c.within.ensures.bound plain)

pub returns-then-is_empty-clause-fault : goal.returns-then-is_empty-clause-fault
returns-then-is_empty-clause-fault g c = λ fault some h. absurd (false≢true (sym some ∙ (sym c.is_empty.ensures ∙ c.if-is_empty.true)))

pub returns-then-is_empty-clause-memory : goal.returns-then-is_empty-clause-memory
returns-then-is_empty-clause-memory g c = λ fault none e.
    let self = c.args.self.now in
    c.within.ensures.memory fault (fault-empty self.config.now (g.R.Records.texts self.records) (g.R.Records.columns self.records) (sym c.is_empty.ensures ∙ c.if-is_empty.true)) e

module _ (config : Config) (texts : List (List Text)) (columns : ℕ) (some : ((length texts == 0) || (columns == 0)) ≡ false) {X : Type 0} (r : Result X TableFault) (ok : is_ok r ≡ true)
    (told : (fault : TableFault) → sizes_fault config texts columns ≡ Some fault → r ≡ Err fault) where
  none : sizes_fault config texts columns ≡ None
  none = told-none config texts columns (λ fault h. false≢true (sym (ap (λ (q : Result X TableFault). is_ok q) (told fault h)) ∙ ok))

  fits : (spans_fit config.spans (length texts) columns ≡ true) × (cells_fit config (text_at texts) (length texts) columns ≡ true)
  fits = told-fits config texts columns some none

pub returns-in_err-dimension-clause-fault : goal.returns-in_err-dimension-clause-fault
returns-in_err-dimension-clause-fault g c = λ fault some h.
    handed-on c.from_residual.result c.in_err-dimension.field-0.0 c.from_residual.ensures.1
    ∙ ap (λ (f : TableFault). Err f) (err-same c.in_err-dimension.field-0.0 fault (told-fault g.R.Records.texts g.R.Records.columns c.new-natural.ensures c.in_err-dimension.ensures.fault fault h))

pub returns-in_err-dimension-clause-memory : goal.returns-in_err-dimension-clause-memory
returns-in_err-dimension-clause-memory g c = λ fault h e.
    told-memory g.R.Records.texts g.R.Records.columns c.new-natural.ensures c.in_err-dimension.ensures.memory fault h
    (ap (λ (f : TableFault). Err f) (fault-is c.from_residual.result c.in_err-dimension.field-0.0 fault (handed-on c.from_residual.result c.in_err-dimension.field-0.0 c.from_residual.ensures.1) e))

pub ranged_widths-requires-clause-cells : goal.ranged_widths-requires-clause-cells
ranged_widths-requires-clause-cells g c = rw (c.sizes.ensures.records) (sym c.is_empty.ensures ∙ c.if-is_empty.false)

pub ranged_widths-requires-clause-fit : goal.ranged_widths-requires-clause-fit
ranged_widths-requires-clause-fit g c =
    let self = c.args.self.now in
    rw (c.sizes.ensures.records, c.sizes.ensures.config) (fits self.config.now (g.R.Records.texts self.records) (g.R.Records.columns self.records) (sym c.is_empty.ensures ∙ c.if-is_empty.false) (Ok c.in_ok-dimension.dimension) refl (told-fault g.R.Records.texts g.R.Records.columns c.new-natural.ensures c.in_ok-dimension.ensures.fault)).0

pub ranged_widths-requires-clause-sized : goal.ranged_widths-requires-clause-sized
ranged_widths-requires-clause-sized g c =
    let self = c.args.self.now in
    rw (c.sizes.ensures.records, c.sizes.ensures.config) (fits self.config.now (g.R.Records.texts self.records) (g.R.Records.columns self.records) (sym c.is_empty.ensures ∙ c.if-is_empty.false) (Ok c.in_ok-dimension.dimension) refl (told-fault g.R.Records.texts g.R.Records.columns c.new-natural.ensures c.in_ok-dimension.ensures.fault)).1

pub ranged_widths-requires-clause-naturals : goal.ranged_widths-requires-clause-naturals
ranged_widths-requires-clause-naturals g c = rw (c.sizes.ensures.records, c.sizes.ensures.config) (c.deref.ensures.value ∙ c.in_ok-dimension.ensures.widths ∙ ap (λ parts. sizes_of g.R.Records.texts g.R.Records.columns Columns parts) c.new-natural.ensures)

pub returns-in_err-widths-clause-fault : goal.returns-in_err-widths-clause-fault
returns-in_err-widths-clause-fault g c = λ fault some h.
    let self = c.args.self.now in
    absurd (not-both _ fault (none self.config.now (g.R.Records.texts self.records) (g.R.Records.columns self.records) some (Ok c.in_ok-dimension.dimension) refl (told-fault g.R.Records.texts g.R.Records.columns c.new-natural.ensures c.in_ok-dimension.ensures.fault)) h)

pub returns-clause-table : goal.returns-clause-table
returns-clause-table g c =
    let self = c.args.self.now in
    let texts = g.R.Records.texts self.records in
    let columns : ℕ = g.R.Records.columns self.records in
    let color = g.C.Colors.color self.colors.now in
    let listed = c.deref-2.ensures.value ∙ (rw (c.sizes.ensures.records, c.sizes.ensures.config) at c.in_ok-widths.ensures.widths) in
    subst (λ (ws : List ℕ). IfOk c.within_limits.result (λ fitted. printed_fitted_table g.R.Records.texts g.R.Records.columns g.C.Colors.color fitted ≡ fitted_table c.args.how (2 ^ 64 - 1) ws self.config.now texts columns color)) listed c.within_limits.ensures.table

pub returns-clause-bound : goal.returns-clause-bound
returns-clause-bound g c = λ plain.
    let self = c.args.self.now in
    let texts = g.R.Records.texts self.records in
    let columns : ℕ = g.R.Records.columns self.records in
    let color = g.C.Colors.color self.colors.now in
    let listed = c.deref-2.ensures.value ∙ (rw (c.sizes.ensures.records, c.sizes.ensures.config) at c.in_ok-widths.ensures.widths) in
    bound-of c.args.how self.config.now texts columns c.args.ranges.now (λ fitted. printed_fitted_table g.R.Records.texts g.R.Records.columns g.C.Colors.color fitted) c.args.width color _ listed c.within_limits.result c.within_limits.ensures.table (c.within_limits.ensures.limits plain)

pub returns-clause-fault : goal.returns-clause-fault
returns-clause-fault g c = λ fault some h.
    let self = c.args.self.now in
    absurd (not-both _ fault (none self.config.now (g.R.Records.texts self.records) (g.R.Records.columns self.records) some (Ok c.in_ok-dimension.dimension) refl (told-fault g.R.Records.texts g.R.Records.columns c.new-natural.ensures c.in_ok-dimension.ensures.fault)) h)

pub returns-clause-memory : goal.returns-clause-memory
returns-clause-memory g c = λ fault h e.
    let self = c.args.self.now in
    let texts = g.R.Records.texts self.records in
    let columns : ℕ = g.R.Records.columns self.records in
    let counted : columns < 2 ^ 64 - 1 = rw (c.sizes.ensures.records) at (c.in_ok-widths.ensures.counted refl) in
    c.within_limits.ensures.memory fault (sized-fits self.config.now texts columns (sym c.is_empty.ensures ∙ c.if-is_empty.false) counted h) e
