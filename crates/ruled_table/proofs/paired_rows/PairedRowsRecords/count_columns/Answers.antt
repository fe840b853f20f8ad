use Rattle.std.proofs.Common.{sym, rules}
use Rattle.csv.specs.Records.{fields_of}
use Rattle.ruled_table.proofs.LentTexts.{pairs-columns, pairs-even}
use Rattle.ruled_table.proofs.paired_rows.PairedRowsRecords.count_columns.Goals as goal

pub returns-else-is_empty-clause-value : goal.returns-else-is_empty-clause-value
returns-else-is_empty-clause-value c = sym (pairs-columns (fields_of c.args.self.now.names.now) (fields_of c.args.self.now.fields.now) c.args.self.now.places.now (search rules))

pub returns-else-is_empty-clause-even : goal.returns-else-is_empty-clause-even
returns-else-is_empty-clause-even c = λ readable. pairs-even (fields_of c.args.self.now.names.now) (fields_of c.args.self.now.fields.now) c.args.self.now.places.now
