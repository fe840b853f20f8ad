use Rattle.std.proofs.Common.{◌≡◌, ◌≤◌, List, ℕ, length, refl, subst, arith}
use Rattle.std.proofs.lemmas.Bool.Decides.{nat_tests}
use Rattle.ruled_sql.specs.Filled.{AreCut, AreRun, steps}
use Rattle.ruled_sql.proofs.Filling.{made-all, made-more, not-made, ok-runs, rowless}
use Rattle.ruled_sql.proofs.filled.filled.Goals as goal

pub loop-number-init : goal.loop-number-init
loop-number-init c = (c.in_ok-connection.connection, record { empty = c.in_ok-connection.ensures.empty; new = c.in_ok-connection.ensures.fresh }, refl)

pub returns-then-is_empty-clause-fault : goal.returns-then-is_empty-clause-fault
returns-then-is_empty-clause-fault c =
    let rows = c.rows_of-rows.result.now in
    let none : length rows ≡ 0 = grind (arith, nat_tests, c.is_empty.ensures, c.if-is_empty.true) in
    rowless c.args.has_all c.args.tables.now c.loop-number.number c.index-tables-number.result c.loop-number-test.true c.index-tables-number.is rows c.rows_of-rows.ensures none

pub returns-in-Err-clause-fault : goal.returns-in-Err-clause-fault
returns-in-Err-clause-fault c =
    let table = c.index-tables-number.result in
    let old = c.loop-number.connection in
    not-made c.args.has_all c.args.tables.now c.loop-number.number table c.loop-number-test.true c.index-tables-number.is old c.loop-number.invariant c.in-Err.error c.fault_of.result c.fault_of.ensures
    (λ sound. subst (λ (rows : List (List (List ℕ))). AreCut (steps table.name.now rows) old c.in-Err.error) c.rows_of-rows.ensures (c.in-Err.ensures.fails sound))

pub loop-number-preserved : goal.loop-number-preserved
loop-number-preserved c =
    let table = c.index-tables-number.result in
    let old = c.loop-number.connection in
    let new = c.make.new.connection in
    made-more c.args.has_all c.args.tables.now c.loop-number.number table c.loop-number-test.true c.index-tables-number.is old c.loop-number.invariant new
    (subst (λ (rows : List (List (List ℕ))). AreRun (steps table.name.now rows) old new) c.rows_of-rows.ensures (ok-runs c.make.result _ c.in_default.not-Err c.make.ensures.runs))

pub returns-clause-filled : goal.returns-clause-filled
returns-clause-filled c =
    let past : length c.args.tables.now ≤ c.loop-number.number = omega (arith, c.loop-number-test.false) in
    made-all c.args.has_all c.args.tables.now c.loop-number.number past c.loop-number.connection c.loop-number.invariant
