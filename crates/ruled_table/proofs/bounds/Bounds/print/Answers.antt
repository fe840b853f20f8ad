use Rattle.std.proofs.Common.{◌≡◌, ◌∙◌, ◌++◌, ℕ, List, Option, None, Ok, Err, string_bytes, true, false, refl, sym, subst, ap, rules}
use Rattle.std.specs.Option.{option_or}
use Rattle.std.specs.Prelude.{OnErr, OnOk, is_none}
use Rattle.pg_layout.specs.Records.{columns_of}
use Rattle.pg_layout.specs.Text.{Text}
use Rattle.pg_picture.specs.Appending.{GainedBeginning}
use Rattle.pg_picture.specs.Picture.{picture}
use Rattle.pg_picture.specs.Table.{Known, Table}
use Rattle.pg_table.specs.Fitted.{fit_fault, fit_fault_of, fitted_of, fitted_table}
use Rattle.pg_table.specs.Printing.{fault_of, printed_table_of}
use Rattle.pg_table.specs.declared.fault.TableFault.{TableFault}
use Rattle.ruled_table.specs.Bounds.{are_told, bounded_table, fitted_within, limits_of, width_of}
use Rattle.ruled_table.specs.Columns.{pairs_in}
use Rattle.ruled_table.specs.Shown.{color_in}
use Rattle.ruled_table.specs.declared.paired_rows.PairedRows.{PairedRows}
use Rattle.ruled_table.proofs.Tables.{first-table-told, gained-none, on-err, printed-begun, printed-fine, printed-wrong, table-told, wrong-told}
use Rattle.ruled_table.proofs.bounds.Bounds.print.Goals as goal

abbrev columns_in : PairedRows → ℕ
columns_in rows = columns_of (pairs_in rows)

pub returns-then-not-are_told-clause-text : goal.returns-then-not-are_told-clause-text
returns-then-not-are_told-clause-text c =
    let natural : are_told c.args.self.now ≡ false = search rules in
    let same = ap (λ parts. printed_table_of pairs_in columns_in color_in parts) c.new-table.ensures in
    rw natural
    (subst (λ (t : Table). OnOk c.print.result (string_bytes c.print.new.buf ≡ string_bytes c.args.buf.now ++ picture Known t)) same c.print.ensures.printed)

pub returns-then-not-are_told-clause-begun : goal.returns-then-not-are_told-clause-begun
returns-then-not-are_told-clause-begun c =
    let natural : are_told c.args.self.now ≡ false = search rules in
    let same = ap (λ parts. printed_table_of pairs_in columns_in color_in parts) c.new-table.ensures in
    rw natural
    (subst (λ (t : Table). OnErr c.print.result (GainedBeginning c.args.buf.now c.print.new.buf (picture Known t))) same
    (printed-begun _ _ _ _ _ c.print.result c.print.ensures.prints))

pub returns-then-not-are_told-clause-ok : goal.returns-then-not-are_told-clause-ok
returns-then-not-are_told-clause-ok c = λ ok.
    let natural : are_told c.args.self.now ≡ false = search rules in
    let same = ap (λ parts. fault_of (printed_table_of pairs_in columns_in color_in parts)) c.new-table.ensures in
    rw natural (sym same ∙ printed-fine _ _ _ _ _ c.print.result c.print.ensures.prints ok)

pub returns-then-not-are_told-clause-fault : goal.returns-then-not-are_told-clause-fault
returns-then-not-are_told-clause-fault c = λ fault is other.
    let natural : are_told c.args.self.now ≡ false = search rules in
    let same = ap (λ parts. is_none (fault_of (printed_table_of pairs_in columns_in color_in parts))) c.new-table.ensures in
    rw natural (sym same ∙ printed-wrong _ _ _ _ _ c.print.result c.print.ensures.prints fault is other)

pub returns-in_err-fitted-clause-begun : goal.returns-in_err-fitted-clause-begun
returns-in_err-fitted-clause-begun c = on-err c.from_residual-in_err-fitted.result (gained-none (picture Known (bounded_table c.args.self.now c.args.config.now (color_in c.args.colors.now) (pairs_in c.args.rows))) refl)

pub returns-in_err-fitted-clause-fault : goal.returns-in_err-fitted-clause-fault
returns-in_err-fitted-clause-fault c = λ fault is other.
    let bounds = c.args.self.now in
    let config = c.args.config.now in
    let texts : List (List Text) = pairs_in c.args.rows in
    let first : Option TableFault = fit_fault config texts (columns_of texts) in
    let later : Option TableFault = fault_of (fitted_within bounds config (color_in c.args.colors.now) texts) in
    let found = c.in_err-fitted.field-0.0 in
    let within : are_told bounds ≡ true = search rules in
    let told = table-told first _ (Err found) (ap (λ parts. fit_fault_of pairs_in columns_in parts) c.new-table.ensures) c.in_err-fitted.ensures.fault c.in_err-fitted.ensures.memory in
    rw within
    (wrong-told (option_or first later) c.from_residual-in_err-fitted.result fault (first-table-told (Unit {0}) first later found c.from_residual-in_err-fitted.result told c.from_residual-in_err-fitted.ensures.1) is other)

pub returns-clause-text : goal.returns-clause-text
returns-clause-text c =
    let bounds = c.args.self.now in
    let config = c.args.config.now in
    let texts : List (List Text) = pairs_in c.args.rows in
    let columns : ℕ = columns_of texts in
    let fitted = c.in_ok-fitted.fitted in
    let table : ℕ → List ℕ → Table = λ width limits. fitted_table bounds.overflow width limits config texts columns (color_in c.args.colors.now) in
    let within : are_told bounds ≡ true = search rules in
    let limits : c.deref.result.now ≡ limits_of bounds.limits.items columns = c.deref.ensures.value ∙ c.in_ok-limits.ensures ∙ ap (limits_of bounds.limits.items) c.count_columns.ensures.value in
    let drawn =
    c.in_ok-fitted.ensures.table
    ∙ ap (λ parts. fitted_of bounds.overflow c.width.result c.deref.result.now pairs_in columns_in color_in parts) c.new-table.ensures
    ∙ ap (λ (n : ℕ). table n c.deref.result.now) c.width.ensures
    ∙ ap (table (width_of bounds.width)) limits
    in
    rw within
    (subst (λ (t : Table). OnOk c.print-2.result (string_bytes c.print-2.new.buf ≡ string_bytes c.args.buf.now ++ picture Known t)) drawn c.print-2.ensures.printed)

pub returns-clause-begun : goal.returns-clause-begun
returns-clause-begun c =
    let bounds = c.args.self.now in
    let config = c.args.config.now in
    let texts : List (List Text) = pairs_in c.args.rows in
    let columns : ℕ = columns_of texts in
    let fitted = c.in_ok-fitted.fitted in
    let table : ℕ → List ℕ → Table = λ width limits. fitted_table bounds.overflow width limits config texts columns (color_in c.args.colors.now) in
    let within : are_told bounds ≡ true = search rules in
    let limits : c.deref.result.now ≡ limits_of bounds.limits.items columns = c.deref.ensures.value ∙ c.in_ok-limits.ensures ∙ ap (limits_of bounds.limits.items) c.count_columns.ensures.value in
    let drawn =
    c.in_ok-fitted.ensures.table
    ∙ ap (λ parts. fitted_of bounds.overflow c.width.result c.deref.result.now pairs_in columns_in color_in parts) c.new-table.ensures
    ∙ ap (λ (n : ℕ). table n c.deref.result.now) c.width.ensures
    ∙ ap (table (width_of bounds.width)) limits
    in
    rw within
    (subst (λ (t : Table). OnErr c.print-2.result (GainedBeginning c.args.buf.now c.print-2.new.buf (picture Known t))) drawn
    (printed-begun _ _ _ _ _ c.print-2.result c.print-2.ensures.prints))

pub returns-clause-ok : goal.returns-clause-ok
returns-clause-ok c = λ ok.
    let bounds = c.args.self.now in
    let config = c.args.config.now in
    let texts : List (List Text) = pairs_in c.args.rows in
    let columns : ℕ = columns_of texts in
    let fitted = c.in_ok-fitted.fitted in
    let table : ℕ → List ℕ → Table = λ width limits. fitted_table bounds.overflow width limits config texts columns (color_in c.args.colors.now) in
    let within : are_told bounds ≡ true = search rules in
    let limits : c.deref.result.now ≡ limits_of bounds.limits.items columns = c.deref.ensures.value ∙ c.in_ok-limits.ensures ∙ ap (limits_of bounds.limits.items) c.count_columns.ensures.value in
    let drawn =
    c.in_ok-fitted.ensures.table
    ∙ ap (λ parts. fitted_of bounds.overflow c.width.result c.deref.result.now pairs_in columns_in color_in parts) c.new-table.ensures
    ∙ ap (λ (n : ℕ). table n c.deref.result.now) c.width.ensures
    ∙ ap (table (width_of bounds.width)) limits
    in
    let none : fit_fault config texts columns ≡ None = table-told (fit_fault config texts columns) _ (Ok fitted) (ap (λ parts. fit_fault_of pairs_in columns_in parts) c.new-table.ensures) c.in_ok-fitted.ensures.fault c.in_ok-fitted.ensures.memory in
    rw (within, none) (sym (ap fault_of drawn) ∙ printed-fine _ _ _ _ _ c.print-2.result c.print-2.ensures.prints ok)

pub returns-clause-fault : goal.returns-clause-fault
returns-clause-fault c = λ fault is other.
    let bounds = c.args.self.now in
    let config = c.args.config.now in
    let texts : List (List Text) = pairs_in c.args.rows in
    let columns : ℕ = columns_of texts in
    let fitted = c.in_ok-fitted.fitted in
    let table : ℕ → List ℕ → Table = λ width limits. fitted_table bounds.overflow width limits config texts columns (color_in c.args.colors.now) in
    let within : are_told bounds ≡ true = search rules in
    let limits : c.deref.result.now ≡ limits_of bounds.limits.items columns = c.deref.ensures.value ∙ c.in_ok-limits.ensures ∙ ap (limits_of bounds.limits.items) c.count_columns.ensures.value in
    let drawn =
    c.in_ok-fitted.ensures.table
    ∙ ap (λ parts. fitted_of bounds.overflow c.width.result c.deref.result.now pairs_in columns_in color_in parts) c.new-table.ensures
    ∙ ap (λ (n : ℕ). table n c.deref.result.now) c.width.ensures
    ∙ ap (table (width_of bounds.width)) limits
    in
    let none : fit_fault config texts columns ≡ None = table-told (fit_fault config texts columns) _ (Ok fitted) (ap (λ parts. fit_fault_of pairs_in columns_in parts) c.new-table.ensures) c.in_ok-fitted.ensures.fault c.in_ok-fitted.ensures.memory in
    rw (within, none) (ap is_none (sym (ap fault_of drawn)) ∙ printed-wrong _ _ _ _ _ c.print-2.result c.print-2.ensures.prints fault is other)
