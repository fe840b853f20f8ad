use Rattle.std.proofs.Common.{◌≡◌, ◌∙◌, false, true, map, sym}
use Rattle.csv.specs.Records.{fields_of}
use Rattle.ruled_json.specs.Rows.{rules_of}
use Rattle.ruled_io.specs.Requests.{holds_database}
use Rattle.ruled_io.proofs.Causes.{asked_held, asked_lacking, held_rows, lacking_rows}
use Rattle.ruled_io.proofs.input.all_rows.Goals as goal

pub returns-then-is_database-clause-rows : goal.returns-then-is_database-clause-rows
returns-then-is_database-clause-rows c =
    let holds : holds_database c.args.source.now c.args.bytes.now ≡ true = sym c.is_database.ensures ∙ c.if-is_database.true in
    asked_held (λ rows. map fields_of rows.items) c.args.needed c.args.source.now c.args.bytes.now c.asked_rows.result holds c.asked_rows.ensures.rows

pub returns-then-is_database-clause-cause : goal.returns-then-is_database-clause-cause
returns-then-is_database-clause-cause c =
    let holds : holds_database c.args.source.now c.args.bytes.now ≡ true = sym c.is_database.ensures ∙ c.if-is_database.true in
    asked_lacking (λ rows. map fields_of rows.items) c.args.needed c.args.source.now c.args.bytes.now c.asked_rows.result holds c.asked_rows.ensures.cause

pub returns-clause-rows : goal.returns-clause-rows
returns-clause-rows c =
    let other : holds_database c.args.source.now c.args.bytes.now ≡ false = sym c.is_database.ensures ∙ c.if-is_database.false in
    held_rows (λ rows. map fields_of rows.items) c.args.needed c.args.source.now c.args.bytes.now (rules_of c.members_or.result.now) c.known.result c.members_or.ensures c.known.ensures other c.rows_in.result c.rows_in.ensures.rows c.rows_in.ensures.fault

pub returns-clause-cause : goal.returns-clause-cause
returns-clause-cause c =
    let other : holds_database c.args.source.now c.args.bytes.now ≡ false = sym c.is_database.ensures ∙ c.if-is_database.false in
    lacking_rows (λ rows. map fields_of rows.items) c.args.needed c.args.source.now c.args.bytes.now (rules_of c.members_or.result.now) c.known.result c.members_or.ensures c.known.ensures other c.rows_in.result c.rows_in.ensures.fault
