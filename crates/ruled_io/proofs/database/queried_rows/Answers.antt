use Rattle.std.proofs.Common.{◌≡◌, ◌∙◌, ◌∷◌, List, None, ap, map, string_bytes}
use Rattle.pg_layout.specs.Text.{Text}
use Rattle.ruled_sql.specs.Filled as queries
use Rattle.ruled_io.specs.Input.{further_table, input_fault, members_in, queried_fault, table_of, tables_of}
use Rattle.ruled_io.proofs.Causes.{of_rows, of_table_query}
use Rattle.ruled_io.proofs.Inputs.{by-first, by-further}
use Rattle.ruled_io.proofs.database.queried_rows.Goals as goal

pub returns-in_err-rows-clause-cause : goal.returns-in_err-rows-clause-cause
returns-in_err-rows-clause-cause c is =
    of_rows c.args.query.now c.args.known c.args.bytes.now is c.in_err-rows.field-0.0 c.from_residual.result
    (λ soft. by-first c.args.query.now c.args.known c.args.bytes.now _ (c.in_err-rows.ensures.fault soft)) c.from_residual.ensures.1

pub returns-in_err-tables-clause-cause : goal.returns-in_err-tables-clause-cause
returns-in_err-tables-clause-cause c is =
    let query = c.args.query.now in
    let first : input_fault None (members_in query) c.args.known c.args.bytes.now ≡ None = c.in_ok-rows.ensures.fault in
    of_rows query c.args.known c.args.bytes.now is c.in_err-tables.field-0.0 c.from_residual-in_err-tables.result
    (λ soft. by-further query c.args.known c.args.bytes.now _ first (c.in_err-tables.ensures.fault soft)) c.from_residual-in_err-tables.ensures.1

pub returns-in_err-query_tables-clause-cause : goal.returns-in_err-query_tables-clause-cause
returns-in_err-query_tables-clause-cause c is =
    let query = c.args.query.now in
    let known = c.args.known in
    let bytes = c.args.bytes.now in
    let sound : queried_fault known query bytes ≡ None = by-further query known bytes None c.in_ok-rows.ensures.fault c.in_ok-tables.ensures.fault in
    let are : map queries.table_of c.in_ok-tables.tables.items ≡ tables_of known query bytes =
    c.in_ok-tables.ensures.tables
    ∙ ap (λ (rows : List (List Text)). (string_bytes query.table, rows) ∷ map (further_table query) query.tables.items) (c.in_ok-first.ensures ∙ ap (table_of query) c.in_ok-rows.ensures.rows) in
    of_table_query query known bytes is c.in_err-query_tables.field-0.0 c.from_residual-in_err-query_tables.result sound
    (rw (are, c.as_str-text.ensures.value) at c.in_err-query_tables.ensures.fault) c.from_residual-in_err-query_tables.ensures.1

pub returns-clause-rows : goal.returns-clause-rows
returns-clause-rows c =
    let query = c.args.query.now in
    let known = c.args.known in
    let bytes = c.args.bytes.now in
    let sound : queried_fault known query bytes ≡ None = by-further query known bytes None c.in_ok-rows.ensures.fault c.in_ok-tables.ensures.fault in
    let are : map queries.table_of c.in_ok-tables.tables.items ≡ tables_of known query bytes =
    c.in_ok-tables.ensures.tables
    ∙ ap (λ (rows : List (List Text)). (string_bytes query.table, rows) ∷ map (further_table query) query.tables.items) (c.in_ok-first.ensures ∙ ap (table_of query) c.in_ok-rows.ensures.rows) in
    (sound, rw (are, c.as_str-text.ensures.value, c.as_str-null.ensures.value) at c.in_ok-query_tables.ensures.rows)
