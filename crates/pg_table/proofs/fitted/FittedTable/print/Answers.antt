use Rattle.std.proofs.Common.{ap, subst}
use Rattle.pg_fit.specs.Overlaid.{overlaid}
use Rattle.pg_picture.specs.Straight.{IsStraight}
use Rattle.pg_picture.specs.Table.{Table}
use Rattle.pg_table.specs.Even.{IsEven}
use Rattle.pg_table.proofs.ToldTables.{same-table}
use Rattle.pg_table.proofs.fitted.FittedTable.print.Goals as goal

pub returns-clause-prints : goal.returns-clause-prints
returns-clause-prints g c = rw (c.natural.ensures.records, c.natural.ensures.config, c.natural.ensures.colors, c.natural.ensures.widths) at c.print.ensures.prints

pub returns-clause-printed : goal.returns-clause-printed
returns-clause-printed g c = rw (c.natural.ensures.records, c.natural.ensures.config, c.natural.ensures.colors, c.natural.ensures.widths) at c.print.ensures.printed

pub returns-clause-straight : goal.returns-clause-straight
returns-clause-straight g c = λ ok.
    let drawn = same-table _ _ _ _ _ _ _ _ _ _ c.natural.ensures.widths c.natural.ensures.config (ap (λ records. overlaid g.R.Records.texts g.R.Records.columns records) c.natural.ensures.records)
    (ap (λ records. g.R.Records.columns records.records) c.natural.ensures.records) (ap (λ colors. g.C.Colors.color colors) c.natural.ensures.colors) in
    subst (λ (t : Table). IsStraight t) drawn (c.print.ensures.straight ok)

pub returns-clause-even : goal.returns-clause-even
returns-clause-even g c = λ ok.
    let drawn = same-table _ _ _ _ _ _ _ _ _ _ c.natural.ensures.widths c.natural.ensures.config (ap (λ records. overlaid g.R.Records.texts g.R.Records.columns records) c.natural.ensures.records)
    (ap (λ records. g.R.Records.columns records.records) c.natural.ensures.records) (ap (λ colors. g.C.Colors.color colors) c.natural.ensures.colors) in
    subst (λ (t : Table). IsEven t) drawn (c.print.ensures.even ok)
