use Rattle.std.proofs.Common.{◌≡◌, Some, map, rules}
use Rattle.csv.specs.Records.{fields_of}
use Rattle.ruled_database.specs.Listings.{AreListed, IsRead, LacksEntry, entry_of, find, HasOpened}
use Rattle.std.specs.Prelude.{IfErr, IfOk}
use Rattle.ruled_database.proofs.Reading.{read-opened}
use Rattle.ruled_database.proofs.Tabling.{lacks_listed}
use Rattle.ruled_database.proofs.schema.open_table.Goals as goal

pub returns-in-Some-clause-rows : goal.returns-in-Some-clause-rows
returns-in-Some-clause-rows c =
    let file = c.args.bytes.now in
    let entry = entry_of c.in-Some.listed in
    let rows = map fields_of c.in_ok-schema.schema.items in
    let read : IsRead file = search rules in
    let listed : AreListed file rows = search rules in
    let found : find c.args.name.now rows ≡ Some entry = search rules in
    let opened : IfOk c.open_entry.result (λ it. HasOpened file c.args.null.now entry (fields_of it.0) it.1) = search rules in
    read-opened file c.args.name.now c.args.null.now entry c.open_entry.result read (record { rows = rows; listed = listed; found = found }) opened

pub returns-in-Some-clause-fault : goal.returns-in-Some-clause-fault
returns-in-Some-clause-fault c =
    let file = c.args.bytes.now in
    let entry = entry_of c.in-Some.listed in
    let rows = map fields_of c.in_ok-schema.schema.items in
    let listed : AreListed file rows = search rules in
    let found : find c.args.name.now rows ≡ Some entry = search rules in
    let lacks : IfErr c.open_entry.result (LacksEntry (Some 1) file c.args.null.now entry) = search rules in
    lacks_listed (Some 1) file c.args.name.now c.args.null.now entry c.open_entry.result (record { rows = rows; listed = listed; found = found }) lacks
