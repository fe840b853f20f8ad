use Rattle.std.proofs.Common.{◌≡◌, ◌∙◌, [], Some, Err, subst, arith}
use Rattle.sqlite.specs.Effect.{Database}
use Rattle.sqlite.specs.Held.{state}
use Rattle.sqlite.specs.Listing.{understood}
use Rattle.sqlite.specs.State.{FailsToQuery, HasCleanDisk}
use Rattle.ruled_sql.specs.Answers.{IsAnswer, IsChange, LacksAnswer}
use Rattle.ruled_sql.proofs.Answering.{answers, changed, limited_changes, limited_now, limited_steps, unanswered, understands, unread-text}
use Rattle.ruled_sql.proofs.database.answer_of.Goals as goal

pub returns-in-Err-clause-fault : goal.returns-in-Err-clause-fault
returns-in-Err-clause-fault g c clean uncounted =
    let over = g.S.Store in
    let limited = c.set_step_limit.new.self in
    subst (λ (db : Database). LacksAnswer c.args.table.now c.args.query.now c.args.steps db c.fault_of_text.result) (limited_now over c.args.connection.now limited (Some c.args.steps) c.set_step_limit.ensures)
    (unread-text c.args.table.now c.args.query.now c.args.steps (state over limited) (state over c.prepare.new.self) c.in-Err.error c.fault_of_text.result c.schema.result.now c.schema.ensures.value c.fault_of_text.ensures (c.in-Err.ensures.err clean []))

pub returns-in-Err-query_all-clause-fault : goal.returns-in-Err-query_all-clause-fault
returns-in-Err-query_all-clause-fault g c clean uncounted =
    let over = g.S.Store in
    let first = c.args.connection.now in
    let limited = c.set_step_limit.new.self in
    let told = c.set_step_limit.ensures in
    let old = state over limited in
    let mid = state over c.prepare.new.self in
    let new = state over c.query_all.new.conn in
    let doubts = c.in-Err-query_all.ensures.survives.clean in
    let still : HasCleanDisk mid = omega (arith, doubts, clean) in
    let prepared = c.in-Ok.ensures.ok still in
    let limit = c.in-Ok.ensures.survives.limit ∙ limited_steps over first limited (Some c.args.steps) told in
    subst (λ (db : Database). LacksAnswer c.args.table.now c.args.query.now c.args.steps db c.fault_of.result) (prepared.1.0.now_is ∙ limited_now over first limited (Some c.args.steps) told)
    (unanswered c.args.table.now c.args.query.now c.args.steps mid new c.in-Err-query_all.error c.fault_of.result c.fault_of.ensures limit
    (λ found is. understands _ c.in-Ok.statement (c.in-Ok.ensures.shape still) found (subst (λ (db : Database). understood db.schema c.args.query.now ≡ Err found) prepared.1.0.now_is is))
    (subst (λ (text : _). FailsToQuery text [] mid new c.in-Err-query_all.error) prepared.0 (c.in-Err-query_all.ensures.err clean)))

pub returns-then-changes-gt0-clause-fault : goal.returns-then-changes-gt0-clause-fault
returns-then-changes-gt0-clause-fault g c clean uncounted =
    let over = g.S.Store in
    let first = c.args.connection.now in
    let limited = c.set_step_limit.new.self in
    let told = c.set_step_limit.ensures in
    let old = state over limited in
    let mid = state over c.prepare.new.self in
    let new = state over c.query_all.new.conn in
    let rows = c.in-Ok-query_all.rows.items in
    let doubts = c.in-Ok-query_all.ensures.survives.clean in
    let still : HasCleanDisk mid = omega (arith, doubts, clean) in
    let prepared = c.in-Ok.ensures.ok still in
    let is = changed c.args.query.now c.args.steps old mid new rows c.in-Ok.statement (limited_changes over first limited (Some c.args.steps) told ∙ uncounted) (limited_steps over first limited (Some c.args.steps) told) prepared.1
    c.in-Ok.ensures.survives.limit prepared.0 (c.in-Ok-query_all.ensures.ok clean) (omega (arith, c.changes.ensures, c.if-changes-gt0.true)) in
    subst (λ (db : Database). IsChange c.args.query.now c.args.steps db) (limited_now over first limited (Some c.args.steps) told) is

pub returns-clause-answer : goal.returns-clause-answer
returns-clause-answer g c clean uncounted =
    let over = g.S.Store in
    let steps = Some c.args.steps in
    let first = c.args.connection.now in
    let limited = c.set_step_limit.new.self in
    let told = c.set_step_limit.ensures in
    let old = state over limited in
    let mid = state over c.prepare.new.self in
    let new = state over c.query_all.new.conn in
    let rows = c.in-Ok-query_all.rows.items in
    let statement = c.in-Ok.statement in
    let doubts = c.in-Ok-query_all.ensures.survives.clean in
    let still : HasCleanDisk mid = omega (arith, doubts, clean) in
    let prepared = c.in-Ok.ensures.ok still in
    let none : new.changes ≡ 0 = omega (arith, c.changes.ensures, c.if-changes-gt0.false) in
    let is = answers c.args.query.now c.args.steps old mid new rows statement (limited_changes over first limited steps told ∙ uncounted) (limited_steps over first limited steps told) prepared.1
    c.in-Ok.ensures.survives.limit prepared.0 (c.in-Ok.ensures.shape still) (c.in-Ok-query_all.ensures.ok clean) none c.in-Ok-query_all.ensures.within in
    subst (λ (db : Database). IsAnswer c.args.query.now c.args.steps db statement.columns rows) (limited_now over first limited steps told) is
