use Rattle.std.proofs.Common.{◌≡◌, ◌∙◌, ℕ, List, None, Ok, Option, sym, ap}
use Rattle.pg_layout.specs.Records.{columns_of}
use Rattle.pg_layout.specs.Text.{Text}
use Rattle.pg_picture.specs.Table.{Table}
use Rattle.pg_fit.specs.Overlaid.{overlaid}
use Rattle.pg_table.specs.Fitted.{fit_fault, fit_fault_of, fitted_of, fitted_table, fitted_texts}
use Rattle.pg_table.specs.Printing.{sizes_fault}
use Rattle.pg_table.specs.Spanning.{spanned_widths}
use Rattle.pg_table.specs.declared.fault.TableFault.{TableFault}
use Rattle.ruled_table.specs.Bounds.{width_of, kept_limits}
use Rattle.ruled_table.specs.Columns.{texts_of}
use Rattle.ruled_table.specs.Widths.{fault_within, widths_within}
use Rattle.ruled_table.specs.declared.lent_rows.LentRows.{LentRows}
use Rattle.ruled_table.proofs.Tables.{drawn-sizes-fault, later-table-told, table-told, widths-are}
use Rattle.ruled_table.proofs.widths.fitted_sizes.Goals as goal

abbrev columns_in : LentRows → ℕ
columns_in records = columns_of (texts_of records)

pub returns-clause-fault : goal.returns-clause-fault
returns-clause-fault c =
    let options = c.args.options.now in
    let bounds = options.bounds in
    let config = c.args.config.now in
    let texts : List (List Text) = texts_of c.args.records in
    let columns : ℕ = columns_of texts in
    let fitted = c.in_ok-fitted.fitted in
    let table : ℕ → List ℕ → Table = λ width limits. fitted_table bounds.overflow width limits config texts columns (λ place. None) in
    let limits : c.deref-2.result.now ≡ kept_limits options (texts_of c.args.fields) texts config = c.deref-2.ensures.value ∙ c.in_ok-limits.ensures in
    let drawn =
    c.in_ok-fitted.ensures.table
    ∙ ap (λ parts. fitted_of bounds.overflow c.width.result c.deref-2.result.now texts_of columns_in (λ colors place. None) parts) c.new-table.ensures
    ∙ ap (λ (n : ℕ). table n c.deref-2.result.now) c.width.ensures
    ∙ ap (table (width_of bounds.width)) limits
    in
    let all : List ℕ = kept_limits options (texts_of c.args.fields) texts config in
    let later : Option TableFault = sizes_fault config (fitted_texts bounds.overflow (width_of bounds.width) all config texts columns) columns in
    let same = drawn-sizes-fault fitted.widths.items (spanned_widths bounds.overflow (width_of bounds.width) all config texts columns) fitted.config.now config (overlaid texts_of columns_in fitted.records) (fitted_texts bounds.overflow (width_of bounds.width) all config texts columns) (columns_in fitted.records.records) columns (λ place. None) (λ place. None) drawn in
    let none = table-told (fit_fault config texts columns) _ (Ok fitted) (ap (λ parts. fit_fault_of texts_of columns_in parts) c.new-table.ensures) c.in_ok-fitted.ensures.fault c.in_ok-fitted.ensures.memory in
    later-table-told (fit_fault config texts columns) later c.natural_dimension.result none (table-told later _ c.natural_dimension.result same c.natural_dimension.ensures.fault c.natural_dimension.ensures.memory)

pub returns-clause-widths : goal.returns-clause-widths
returns-clause-widths c =
    let options = c.args.options.now in
    let bounds = options.bounds in
    let config = c.args.config.now in
    let texts : List (List Text) = texts_of c.args.records in
    let table : ℕ → List ℕ → Table = λ width limits. fitted_table bounds.overflow width limits config texts (columns_of texts) (λ place. None) in
    let limits : c.deref-2.result.now ≡ kept_limits options (texts_of c.args.fields) texts config = c.deref-2.ensures.value ∙ c.in_ok-limits.ensures in
    let drawn =
    c.in_ok-fitted.ensures.table
    ∙ ap (λ parts. fitted_of bounds.overflow c.width.result c.deref-2.result.now texts_of columns_in (λ colors place. None) parts) c.new-table.ensures
    in
    widths-are c.natural_dimension.result _ (table (width_of bounds.width) (kept_limits options (texts_of c.args.fields) texts config)).width c.natural_dimension.ensures.widths
    (ap (λ (t : Table). t.width) (drawn ∙ ap (λ (n : ℕ). table n c.deref-2.result.now) c.width.ensures ∙ ap (table (width_of bounds.width)) limits))

-- where texts are wrapped only until one is as wide as it may be
pub returns-in-Some-clause-fault : goal.returns-in-Some-clause-fault
returns-in-Some-clause-fault c =
    let options = c.args.options.now in
    let texts : List (List Text) = texts_of c.args.records in
    let limits : c.deref.result.now ≡ kept_limits options (texts_of c.args.fields) texts c.args.config.now = c.deref.ensures.value ∙ c.in_ok-limits.ensures in
    ap (λ (ls : List ℕ). fault_within options.bounds ls c.args.config.now texts) (sym limits) ∙ (rw c.in-Some.is at c.in_ok-found.ensures.fault)

pub returns-in-Some-clause-widths : goal.returns-in-Some-clause-widths
returns-in-Some-clause-widths c =
    let options = c.args.options.now in
    let texts : List (List Text) = texts_of c.args.records in
    let limits : c.deref.result.now ≡ kept_limits options (texts_of c.args.fields) texts c.args.config.now = c.deref.ensures.value ∙ c.in_ok-limits.ensures in
    (rw c.in-Some.is at c.in_ok-found.ensures.widths) ∙ ap (λ (ls : List ℕ). widths_within options.bounds ls c.args.config.now texts) limits
