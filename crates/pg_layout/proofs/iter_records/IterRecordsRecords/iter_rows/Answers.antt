use Rattle.std.proofs.Common.{ap}
use Rattle.pg_layout.specs.declared.iter_records.IterRows.{IterRows}
use Rattle.pg_layout.proofs.Given.{made-of-items}
use Rattle.pg_layout.proofs.iter_records.IterRecordsRecords.iter_rows.Goals as goal

pub returns : goal.returns
returns g c =
    made-of-items {W = IterRows g.row.I.Denot} (λ s. s.iter) g.I.Iterator.next_gives g.I.Item.IntoIterator.into_iter_gives _ g.I.Iterator.can_next g.I.Iterator.remaining
    (record { iter = c.self.inside.iter }) c.args.self.iter c.args.self.texts (ap (λ r. r.iter) c.self.view_is) c.requires.rows
