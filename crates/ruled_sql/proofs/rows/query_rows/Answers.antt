use Rattle.std.proofs.Common.{◌≡◌, refl, subst, rules}
use Rattle.sqlite.specs.Files.{file_state}
use Rattle.ruled_sql.specs.Answers.{IsUnopened, LacksRows}
use Rattle.ruled_sql.specs.declared.fault.SqlFault.TheVariants.{Database, Query}
use Rattle.ruled_sql.proofs.Answering.{held, stays_clean, handed, handed_on, unopened-lacks, unshown-lacks}
use Rattle.ruled_sql.proofs.rows.query_rows.Goals as goal

pub returns-in_err-connection-clause-none : goal.returns-in_err-connection-clause-none
returns-in_err-connection-clause-none c is =
    subst (IsUnopened c.args.bytes.now) (handed_on Database c.from_residual.result c.in_err-connection.field-0.0 c.from_residual.ensures.1 is) c.in_err-connection.ensures.fault

pub returns-in_err-connection-clause-fault : goal.returns-in_err-connection-clause-fault
returns-in_err-connection-clause-fault c =
    let fault = c.in_err-connection.field-0.0 in
    handed (LacksRows c.args.bytes.now c.args.query.now c.args.steps) c.from_residual.result fault c.from_residual.ensures.1 (unopened-lacks c.args.bytes.now c.args.query.now c.args.steps fault c.in_err-connection.ensures.fault)

pub returns-in_err-answer-clause-fault : goal.returns-in_err-answer-clause-fault
returns-in_err-answer-clause-fault c =
    let state = file_state c.in_ok-connection.connection in
    let opened = c.in_ok-connection.ensures.opened in
    let fault = c.in_err-answer.field-0.0 in
    handed (LacksRows c.args.bytes.now c.args.query.now c.args.steps) c.from_residual-in_err-answer.result (Query fault) c.from_residual-in_err-answer.ensures.1
    (state.now, held c.args.bytes.now state opened.0 opened.1 c.in_ok-connection.ensures.found, c.in_err-answer.ensures.fault (stays_clean (λ _. refl) c.answer_of.new.connection) c.in_ok-connection.ensures.fresh.changes)

pub returns-in_err-rows-clause-fault : goal.returns-in_err-rows-clause-fault
returns-in_err-rows-clause-fault c =
    let state = file_state c.in_ok-connection.connection in
    let opened = c.in_ok-connection.ensures.opened in
    let fault = c.in_err-rows.field-0.0 in
    let names : c.column_names.result.now ≡ c.in_ok-answer.answer.statement.columns = search rules in
    let rows : c.deref.result.now ≡ c.in_ok-answer.answer.rows.items = search rules in
    handed (LacksRows c.args.bytes.now c.args.query.now c.args.steps) c.from_residual-in_err-rows.result (Query fault) c.from_residual-in_err-rows.ensures.1
    (unshown-lacks c.args.bytes.now c.args.query.now c.args.steps state.now (held c.args.bytes.now state opened.0 opened.1 c.in_ok-connection.ensures.found) c.in_ok-answer.answer.statement.columns c.in_ok-answer.answer.rows.items
    (c.in_ok-answer.ensures.answer (stays_clean (λ _. refl) c.answer_of.new.connection) c.in_ok-connection.ensures.fresh.changes) fault (rw (names, rows) at c.in_err-rows.ensures.fault))

pub returns-clause-rows : goal.returns-clause-rows
returns-clause-rows c =
    let state = file_state c.in_ok-connection.connection in
    let opened = c.in_ok-connection.ensures.opened in
    let names : c.column_names.result.now ≡ c.in_ok-answer.answer.statement.columns = search rules in
    let rows : c.deref.result.now ≡ c.in_ok-answer.answer.rows.items = search rules in
    record {
      database = state.now;
      held = held c.args.bytes.now state opened.0 opened.1 c.in_ok-connection.ensures.found;
      names = c.in_ok-answer.answer.statement.columns;
      answer = c.in_ok-answer.answer.rows.items;
      is = c.in_ok-answer.ensures.answer (stays_clean (λ _. refl) c.answer_of.new.connection) c.in_ok-connection.ensures.fresh.changes;
      shown = rw (names, rows) at c.in_ok-rows.ensures.rows;
    }
