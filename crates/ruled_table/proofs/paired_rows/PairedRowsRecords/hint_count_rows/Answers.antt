use Rattle.std.proofs.Common.{sym}
use Rattle.csv.specs.Records.{fields_of}
use Rattle.ruled_table.proofs.LentTexts.{pairs-count}
use Rattle.ruled_table.proofs.paired_rows.PairedRowsRecords.hint_count_rows.Goals as goal

pub returns-clause-exact : goal.returns-clause-exact
returns-clause-exact c = λ readable. sym (pairs-count (fields_of c.args.self.now.names.now) (fields_of c.args.self.now.fields.now) c.args.self.now.places.now)
