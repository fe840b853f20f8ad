use Rattle.std.proofs.Common.{◌≡◌, ◌∙◌, ℕ, List, ap, map, sym, subst, rules}
use Rattle.sqlite.proofs.Callers.{memory_is_clean}
use Rattle.sqlite.specs.Held.{state}
use Rattle.sqlite.specs.Steps.{over_memory}
use Rattle.ruled_sql.specs.Answers.{LacksAnswer}
use Rattle.ruled_sql.specs.Filled.{IsCalled, IsFilled, LacksQueried, Table, first_name, steps_of, table_of}
use Rattle.ruled_sql.specs.declared.fault.SqlFault.{SqlFault}
use Rattle.ruled_sql.specs.declared.fault.SqlFault.TheVariants.{Query}
use Rattle.ruled_sql.specs.declared.filled.NamedRows.{NamedRows}
use Rattle.ruled_sql.proofs.Filling.{lacks-answer, lacks-table, lacks-text, with-all}
use Rattle.ruled_sql.proofs.Answering.{handed}
use Rattle.ruled_sql.proofs.rows.query_tables.Goals as goal

pub returns-in_err-connection-clause-fault : goal.returns-in_err-connection-clause-fault
returns-in_err-connection-clause-fault c =
    let tables = map table_of c.args.tables.items in
    let called = map table_of c.deref-2.result.now in
    let either : IsCalled tables c.args.query.now called =
    subst (λ (last : List NamedRows). IsCalled tables c.args.query.now (map table_of last)) (sym c.deref-2.ensures.value) c.in_ok-name_for.ensures.called in
    let fault = c.in_err-connection.field-0.0 in
    handed (LacksQueried tables c.args.query.now c.args.steps) c.from_residual-in_err-connection.result fault c.from_residual-in_err-connection.ensures.1
    (lacks-table tables called c.args.query.now c.args.steps either fault c.in_err-connection.ensures.fault)

pub returns-in-Err-clause-fault : goal.returns-in-Err-clause-fault
returns-in-Err-clause-fault c =
    let tables = map table_of c.args.tables.items in
    let called = map table_of c.deref-2.result.now in
    let either : IsCalled tables c.args.query.now called =
    subst (λ (last : List NamedRows). IsCalled tables c.args.query.now (map table_of last)) (sym c.deref-2.ensures.value) c.in_ok-name_for.ensures.called in
    let connection = c.in_ok-connection.connection in
    let filled : IsFilled (steps_of called) connection = subst (λ (some : List Table). IsFilled (steps_of some) connection) (with-all called) c.in_ok-connection.ensures.filled in
    let name : c.first_name-name.result.now ≡ first_name tables = c.first_name-name.ensures ∙ ap (λ (all : List NamedRows). first_name (map table_of all)) c.deref.ensures.value in
    subst (λ (fault : SqlFault). LacksQueried tables c.args.query.now c.args.steps fault) (sym c.fault_of_table.ensures)
    (lacks-answer tables called c.args.query.now c.args.steps either connection filled c.in-Err.fault
    (subst (λ (text : List ℕ). LacksAnswer text c.args.query.now c.args.steps (state over_memory connection).now c.in-Err.fault) name
    (c.in-Err.ensures.fault (memory_is_clean c.answer_of.new.connection) c.in_ok-connection.ensures.uncounted)))

pub returns-in_err-rows-clause-fault : goal.returns-in_err-rows-clause-fault
returns-in_err-rows-clause-fault c =
    let tables = map table_of c.args.tables.items in
    let called = map table_of c.deref-2.result.now in
    let either : IsCalled tables c.args.query.now called =
    subst (λ (last : List NamedRows). IsCalled tables c.args.query.now (map table_of last)) (sym c.deref-2.ensures.value) c.in_ok-name_for.ensures.called in
    let connection = c.in_ok-connection.connection in
    let filled : IsFilled (steps_of called) connection = subst (λ (some : List Table). IsFilled (steps_of some) connection) (with-all called) c.in_ok-connection.ensures.filled in
    let fault = c.in_err-rows.field-0.0 in
    let names : c.column_names.result.now ≡ c.in-Ok.found.statement.columns = search rules in
    let rows : c.deref-3.result.now ≡ c.in-Ok.found.rows.items = search rules in
    handed (LacksQueried tables c.args.query.now c.args.steps) c.from_residual-in_err-rows.result (Query fault) c.from_residual-in_err-rows.ensures.1
    (lacks-text tables called c.args.query.now c.args.steps either connection filled c.in-Ok.found.statement.columns c.in-Ok.found.rows.items
    (c.in-Ok.ensures.answer (memory_is_clean c.answer_of.new.connection) c.in_ok-connection.ensures.uncounted) fault (rw (names, rows) at c.in_err-rows.ensures.fault))

pub returns-clause-rows : goal.returns-clause-rows
returns-clause-rows c =
    let tables = map table_of c.args.tables.items in
    let called = map table_of c.deref-2.result.now in
    let either : IsCalled tables c.args.query.now called =
    subst (λ (last : List NamedRows). IsCalled tables c.args.query.now (map table_of last)) (sym c.deref-2.ensures.value) c.in_ok-name_for.ensures.called in
    let connection = c.in_ok-connection.connection in
    let filled : IsFilled (steps_of called) connection = subst (λ (some : List Table). IsFilled (steps_of some) connection) (with-all called) c.in_ok-connection.ensures.filled in
    let names : c.column_names.result.now ≡ c.in-Ok.found.statement.columns = search rules in
    let rows : c.deref-3.result.now ≡ c.in-Ok.found.rows.items = search rules in
    record {
      called = called;
      names_are = either;
      connection = connection;
      filled = filled;
      names = c.in-Ok.found.statement.columns;
      answer = c.in-Ok.found.rows.items;
      is = c.in-Ok.ensures.answer (memory_is_clean c.answer_of.new.connection) c.in_ok-connection.ensures.uncounted;
      shown = rw (names, rows) at c.in_ok-rows.ensures.rows;
    }
