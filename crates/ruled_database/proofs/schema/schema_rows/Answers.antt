use Rattle.std.proofs.Common.{◌≡◌, ◌∙◌, ◌++◌, ℕ, List, None, map, sym, ap, subst₂}
use Rattle.csv.specs.Records.{Row as Fields, fields_of}
use Rattle.ruled_database.specs.Listings.{schema_definition}
use Rattle.ruled_database.specs.Tables.{AreRows}
use Rattle.ruled_database.specs.declared.definition.Definition.{Definition}
use Rattle.ruled_database.proofs.Tabling.{lacks_rows}
use Rattle.ruled_database.proofs.schema.schema_rows.Goals as goal

pub returns-in-Ok-clause-rows : goal.returns-in-Ok-clause-rows
unfolding schema_definition
returns-in-Ok-clause-rows c =
    let is : c.in_ok-definition.definition ≡ schema_definition = c.in_ok-definition.ensures in
    let (rows, are, added) = c.in-Ok.ensures in
    let same : map fields_of c.push_rows.new.rows.items ≡ rows = added ∙ ap (λ (items : List Fields). map fields_of items ++ rows) c.new-rows.ensures.items in
    subst₂ (λ (it : Definition) (shown : List (List (List ℕ))). AreRows None c.args.file.bytes.now 1 it shown) is (sym same) are

pub returns-clause-fault : goal.returns-clause-fault
unfolding schema_definition
returns-clause-fault c =
    let is : c.in_ok-definition.definition ≡ schema_definition = c.in_ok-definition.ensures in
    lacks_rows (Unit {0}) None c.args.file.bytes.now 1 c.in_ok-definition.definition schema_definition (map fields_of c.new-rows.result.items) (map fields_of c.push_rows.new.rows.items) c.in-Err.fault is c.in-Err.ensures
