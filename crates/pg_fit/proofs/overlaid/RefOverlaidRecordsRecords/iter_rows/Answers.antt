use Rattle.pg_fit.proofs.OverlaidTexts.{rows-given}
use Rattle.pg_fit.proofs.overlaid.RefOverlaidRecordsRecords.iter_rows.Goals as goal

pub returns : goal.returns
returns g c = rows-given g.R.Records.texts g.R.Records.columns _
