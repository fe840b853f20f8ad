use Rattle.std.proofs.Common.{◌≡◌, ◌==◌, ◌||◌, ℕ, Bool, true, false, not, List, length, Some, None, Result, Ok, Err, is_ok, refl, sym, ap, subst, ◌∙◌}
use Rattle.std.proofs.lemmas.Bool.{false≢true}
use Rattle.pg_layout.specs.Records.{text_at}
use Rattle.pg_layout.specs.Text.{Text}
use Rattle.pg_config.specs.Config.{Config}
use Rattle.pg_picture.specs.Fits.{spans_fit}
use Rattle.pg_fit.specs.Overlaid.{other_text}
use Rattle.pg_table.specs.Fitted.{fit_fault}
use Rattle.pg_table.specs.Inside.{AreFittedTo}
use Rattle.pg_table.specs.Natural.{cells_fit}
use Rattle.pg_table.specs.Printing.{sizes_fault, sizes_of}
use Rattle.pg_table.specs.Spanning.{keeps_spans}
use Rattle.pg_table.specs.declared.fault.TableFault.{TableFault}
use Rattle.pg_table.specs.declared.sizes.Axis.TheVariants.{Columns}
use Rattle.pg_table.proofs.Faults.{fault-is}
use Rattle.pg_table.proofs.FitFaults.{kept-parts, not-both, fault-spans, told-fits, told-none, handed-on}
use Rattle.pg_table.proofs.FittedTables.{told-fault, told-memory, err-same}
use Rattle.pg_table.proofs.natural.NaturalTable.fit_spanned.Goals as goal

module _ (config : Config) (texts : List (List Text)) (columns : ℕ) (kept : keeps_spans config texts columns ≡ true) where
  abbrev empty : Bool
  empty = (length texts == 0) || (columns == 0)

  parts : (empty ≡ false) × (not (length config.spans == 0) ≡ true)
  parts = kept-parts empty (not (length config.spans == 0)) kept

  same-fault : fit_fault config texts columns ≡ sizes_fault config texts columns
  same-fault = fault-spans config texts columns parts.0 parts.1

  -- where the natural sizes are told, there is no fault, and spans and cells fit
  module _ {X : Type 0} (r : Result X TableFault) (ok : is_ok r ≡ true) (told : (fault : TableFault) → sizes_fault config texts columns ≡ Some fault → r ≡ Err fault) where
    none : sizes_fault config texts columns ≡ None
    none = told-none config texts columns (λ fault h. false≢true (sym (ap (λ (q : Result X TableFault). is_ok q) (told fault h)) ∙ ok))

    fits : (spans_fit config.spans (length texts) columns ≡ true) × (cells_fit config (text_at texts) (length texts) columns ≡ true)
    fits = told-fits config texts columns parts.0 none

    not-there : (fault : TableFault) → fit_fault config texts columns ≡ Some fault → ⊥
    not-there fault h = not-both (fit_fault config texts columns) fault (same-fault ∙ none) h

pub returns-in_err-dimension-clause-fault : goal.returns-in_err-dimension-clause-fault
returns-in_err-dimension-clause-fault g c = λ fault h.
    let self = c.args.self.now in
    let config : Config = self.config.now in
    let texts = g.R.Records.texts self.records in
    let columns : ℕ = g.R.Records.columns self.records in
    handed-on c.from_residual.result c.in_err-dimension.field-0.0 c.from_residual.ensures.1 ∙ ap (λ (f : TableFault). Err f) (err-same c.in_err-dimension.field-0.0 fault (told-fault g.R.Records.texts g.R.Records.columns c.new-natural.ensures c.in_err-dimension.ensures.fault fault (sym (same-fault config texts columns c.requires.kept) ∙ h)))

pub returns-in_err-dimension-clause-memory : goal.returns-in_err-dimension-clause-memory
returns-in_err-dimension-clause-memory g c = λ fault h e.
    let self = c.args.self.now in
    let config : Config = self.config.now in
    let texts = g.R.Records.texts self.records in
    let columns : ℕ = g.R.Records.columns self.records in
    told-memory g.R.Records.texts g.R.Records.columns c.new-natural.ensures c.in_err-dimension.ensures.memory fault (sym (same-fault config texts columns c.requires.kept) ∙ h) (ap (λ (f : TableFault). Err f) (fault-is c.from_residual.result c.in_err-dimension.field-0.0 fault (handed-on c.from_residual.result c.in_err-dimension.field-0.0 c.from_residual.ensures.1) e))

pub spanned_widths-requires-clause-fit : goal.spanned_widths-requires-clause-fit
spanned_widths-requires-clause-fit g c =
    let self = c.args.self.now in
    let config : Config = self.config.now in
    let texts = g.R.Records.texts self.records in
    let columns : ℕ = g.R.Records.columns self.records in
    rw (c.sizes-sizes.ensures.records, c.sizes-sizes.ensures.config) (fits config texts columns c.requires.kept (Ok c.in_ok-dimension.dimension) refl (told-fault g.R.Records.texts g.R.Records.columns c.new-natural.ensures c.in_ok-dimension.ensures.fault)).0

pub spanned_widths-requires-clause-sized : goal.spanned_widths-requires-clause-sized
spanned_widths-requires-clause-sized g c =
    let self = c.args.self.now in
    let config : Config = self.config.now in
    let texts = g.R.Records.texts self.records in
    let columns : ℕ = g.R.Records.columns self.records in
    rw (c.sizes-sizes.ensures.records, c.sizes-sizes.ensures.config) (fits config texts columns c.requires.kept (Ok c.in_ok-dimension.dimension) refl (told-fault g.R.Records.texts g.R.Records.columns c.new-natural.ensures c.in_ok-dimension.ensures.fault)).1

pub spanned_widths-requires-clause-naturals : goal.spanned_widths-requires-clause-naturals
spanned_widths-requires-clause-naturals g c = rw (c.sizes-sizes.ensures.records, c.sizes-sizes.ensures.config) (c.deref.ensures.value ∙ c.in_ok-dimension.ensures.widths ∙ ap (λ parts. sizes_of g.R.Records.texts g.R.Records.columns Columns parts) c.new-natural.ensures)

pub returns-in_err-dimension-2-clause-fault : goal.returns-in_err-dimension-2-clause-fault
returns-in_err-dimension-2-clause-fault g c = λ fault h.
    let self = c.args.self.now in
    let config : Config = self.config.now in
    let texts = g.R.Records.texts self.records in
    let columns : ℕ = g.R.Records.columns self.records in
    absurd (not-there config texts columns c.requires.kept (Ok c.in_ok-dimension.dimension) refl (told-fault g.R.Records.texts g.R.Records.columns c.new-natural.ensures c.in_ok-dimension.ensures.fault) fault h)

pub fit_rows-requires-clause-fit : goal.fit_rows-requires-clause-fit
fit_rows-requires-clause-fit g c =
    let self = c.args.self.now in
    let config : Config = self.config.now in
    let texts = g.R.Records.texts self.records in
    let columns : ℕ = g.R.Records.columns self.records in
    rw (c.sizes-sizes.ensures.records, c.sizes-sizes.ensures.config) (fits config texts columns c.requires.kept (Ok c.in_ok-dimension.dimension) refl (told-fault g.R.Records.texts g.R.Records.columns c.new-natural.ensures c.in_ok-dimension.ensures.fault)).0

pub fit_rows-requires-clause-sized : goal.fit_rows-requires-clause-sized
fit_rows-requires-clause-sized g c =
    let self = c.args.self.now in
    let config : Config = self.config.now in
    let texts = g.R.Records.texts self.records in
    let columns : ℕ = g.R.Records.columns self.records in
    rw (c.sizes-sizes.ensures.records, c.sizes-sizes.ensures.config) (fits config texts columns c.requires.kept (Ok c.in_ok-dimension.dimension) refl (told-fault g.R.Records.texts g.R.Records.columns c.new-natural.ensures c.in_ok-dimension.ensures.fault)).1

pub returns-in_err-fit_rows-clause-fault : goal.returns-in_err-fit_rows-clause-fault
returns-in_err-fit_rows-clause-fault g c = λ fault h.
    let self = c.args.self.now in
    let config : Config = self.config.now in
    let texts = g.R.Records.texts self.records in
    let columns : ℕ = g.R.Records.columns self.records in
    absurd (not-there config texts columns c.requires.kept (Ok c.in_ok-dimension.dimension) refl (told-fault g.R.Records.texts g.R.Records.columns c.new-natural.ensures c.in_ok-dimension.ensures.fault) fault h)

pub returns-clause-fault : goal.returns-clause-fault
returns-clause-fault g c = λ fault h.
    let self = c.args.self.now in
    let config : Config = self.config.now in
    let texts = g.R.Records.texts self.records in
    let columns : ℕ = g.R.Records.columns self.records in
    absurd (not-there config texts columns c.requires.kept (Ok c.in_ok-dimension.dimension) refl (told-fault g.R.Records.texts g.R.Records.columns c.new-natural.ensures c.in_ok-dimension.ensures.fault) fault h)

pub returns-clause-fits : goal.returns-clause-fits
returns-clause-fits g c =
    let self = c.args.self.now in
    let config : Config = self.config.now in
    let texts = g.R.Records.texts self.records in
    let columns : ℕ = g.R.Records.columns self.records in
    let taken = ap (λ v. v.items) c.replace.ensures.value in
    record {
      ascending = c.spans-spans.ensures.ascending;
      spans = (fits config texts columns c.requires.kept (Ok c.in_ok-dimension.dimension) refl (told-fault g.R.Records.texts g.R.Records.columns c.new-natural.ensures c.in_ok-dimension.ensures.fault)).0;
      widths_are = taken ∙ (rw (c.sizes-sizes.ensures.records, c.sizes-sizes.ensures.config) at c.in_ok-dimension-2.ensures);
      all = subst (λ (ws : List ℕ). AreFittedTo c.args.within.now.how ws config texts columns (length texts) 0 (other_text c.fit_rows.new.fitted.others texts)) (sym taken) (rw (c.sizes-sizes.ensures.records, c.sizes-sizes.ensures.config) at c.in_ok-fit_rows.ensures.fits);
    }
