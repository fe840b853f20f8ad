use Rattle.std.proofs.Common.{◌≡◌, Some, map, rules}
use Rattle.csv.specs.Records.{fields_of}
use Rattle.ruled_database.specs.Listings.{AreListed, LacksEntry, entry_of, find}
use Rattle.std.specs.Prelude.{IfErr}
use Rattle.ruled_database.proofs.Tabling.{lacks_listed}
use Rattle.ruled_database.proofs.schema.table_rows.Goals as goal

pub returns-in-Some-clause-fault : goal.returns-in-Some-clause-fault
returns-in-Some-clause-fault c =
    let file = c.args.bytes.now in
    let entry = entry_of c.in-Some.listed in
    let rows = map fields_of c.in_ok-schema.schema.items in
    let listed : AreListed file rows = search rules in
    let found : find c.args.name.now rows ≡ Some entry = search rules in
    let lacks : IfErr c.entry_rows.result (LacksEntry c.args.limit file c.args.null.now entry) = search rules in
    lacks_listed c.args.limit file c.args.name.now c.args.null.now entry c.entry_rows.result (record { rows = rows; listed = listed; found = found }) lacks
