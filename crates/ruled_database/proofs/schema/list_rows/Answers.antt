use Rattle.std.proofs.Common.{inr, map, rules}
use Rattle.csv.specs.Records.{fields_of}
use Rattle.ruled_database.specs.Listings.{AreListed, LacksEntries}
use Rattle.ruled_database.proofs.Tabling.{lacks_schema}
use Rattle.ruled_database.proofs.schema.list_rows.Goals as goal

pub returns-in_err-schema-clause-fault : goal.returns-in_err-schema-clause-fault
returns-in_err-schema-clause-fault c =
    lacks_schema c.in_ok-file.file.bytes.now c.args.bytes.now c.from_residual-in_err-schema.result c.in_err-schema.field-0.0 c.from_residual-in_err-schema.ensures.1 c.in_ok-file.ensures.bytes c.in_err-schema.ensures.fault

pub returns-clause-fault : goal.returns-clause-fault
returns-clause-fault c =
    let rows = map fields_of c.in_ok-schema.schema.items in
    let listed : AreListed c.args.bytes.now rows = search rules in
    let lacks : LacksEntries rows c.in-Err.fault = search rules in
    inr (rows, listed, lacks)
