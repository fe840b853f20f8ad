use Rattle.csv.specs.Records.{fields_of}
use Rattle.ruled_table.specs.Columns.{last_word, missing_word}
use Rattle.ruled_table.proofs.WordsOfColumns.{told_first}
use Rattle.ruled_table.proofs.columns.places_in.Goals as goal

pub returns-in_err-places-clause-fault : goal.returns-in_err-places-clause-fault
returns-in_err-places-clause-fault c =
    let words = c.args.words.now in
    let header = fields_of c.args.header.now in
    told_first (missing_word words header) (last_word words header) c.in_err-places.field-0.0 c.from_residual.result c.in_err-places.ensures.fault c.from_residual.ensures.1
