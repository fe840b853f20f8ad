use Rattle.std.proofs.Common.{◌≡◌, IfOk, sym, ap, ◌∙◌, subst, string_bytes}
use Rattle.pg_fit.specs.Overlaid.{overlaid}
use Rattle.pg_picture.specs.Picture.{picture}
use Rattle.pg_picture.specs.Table.{Table, Known}
use Rattle.pg_table.specs.Fitted.{printed_fitted_table}
use Rattle.pg_table.specs.Printing.{fault_of, CanFail}
use Rattle.pg_table.proofs.ToldTables.{same-table, even}
use Rattle.pg_table.proofs.StraightTables.{even-text}
use Rattle.pg_table.proofs.fitted.FittedTable.to_string.Goals as goal

pub returns-clause-text : goal.returns-clause-text
returns-clause-text g c =
    let drawn = same-table _ _ _ _ _ _ _ _ _ _ c.natural.ensures.widths c.natural.ensures.config (ap (λ records. overlaid g.R.Records.texts g.R.Records.columns records) c.natural.ensures.records)
    (ap (λ records. g.R.Records.columns records.records) c.natural.ensures.records) (ap (λ colors. g.C.Colors.color colors) c.natural.ensures.colors) in
    subst (λ (t : Table). IfOk c.to_string.result (λ text. string_bytes text ≡ picture Known t)) drawn c.to_string.ensures.text

pub returns-clause-ok : goal.returns-clause-ok
returns-clause-ok g c = λ ok.
    let drawn = same-table _ _ _ _ _ _ _ _ _ _ c.natural.ensures.widths c.natural.ensures.config (ap (λ records. overlaid g.R.Records.texts g.R.Records.columns records) c.natural.ensures.records)
    (ap (λ records. g.R.Records.columns records.records) c.natural.ensures.records) (ap (λ colors. g.C.Colors.color colors) c.natural.ensures.colors) in
    ap (λ (t : Table). fault_of t) (sym drawn) ∙ c.to_string.ensures.ok ok

pub returns-clause-fault : goal.returns-clause-fault
returns-clause-fault g c = λ fault e.
    let drawn = same-table _ _ _ _ _ _ _ _ _ _ c.natural.ensures.widths c.natural.ensures.config (ap (λ records. overlaid g.R.Records.texts g.R.Records.columns records) c.natural.ensures.records)
    (ap (λ records. g.R.Records.columns records.records) c.natural.ensures.records) (ap (λ colors. g.C.Colors.color colors) c.natural.ensures.colors) in
    subst (λ (t : Table). CanFail t fault) drawn (c.to_string.ensures.fault fault e)

pub returns-clause-empty : goal.returns-clause-empty
returns-clause-empty g c = rw c.natural.ensures.records at c.to_string.ensures.empty

pub returns-clause-even : goal.returns-clause-even
returns-clause-even g c = λ look.
    let self = c.args.self.now in
    even-text c.to_string.result (printed_fitted_table g.R.Records.texts g.R.Records.columns g.C.Colors.color self) (returns-clause-text g c)
    (λ ok. even self.widths.items self.config.now (overlaid g.R.Records.texts g.R.Records.columns self.records) (g.R.Records.columns self.records.records) (g.C.Colors.color self.colors.now) (returns-clause-ok g c ok) look)
