use Rattle.std.proofs.Common.{◌≡◌, ◌≤◌, List, false, length, map, take, subst, arith}
use Rattle.std.proofs.lemmas.List.{take_all}
use Rattle.csv.specs.Records.{Row, fields_of}
use Rattle.ruled_sql.specs.Filled.{AreCut, AreRun, insertions}
use Rattle.ruled_sql.specs.Answers.{is_memory}
use Rattle.sqlite.specs.declared.error.Error.{Error}
use Rattle.ruled_sql.proofs.Filling.{cut-more, run-more}
use Rattle.ruled_sql.proofs.Answering.{handed}
use Rattle.ruled_sql.proofs.filled.insert_rows.Goals as goal

pub loop-fields-preserved : goal.loop-fields-preserved
loop-fields-preserved c =
    run-more c.args.text.now c.args.count c.args.records.now c.loop-fields.fields-index c.fields-item.result c.args.connection.now c.loop-fields.connection c.insert_row.new.connection (omega arith) c.fields-item.is
    c.loop-fields.invariant c.in_ok-insert_row.ensures.runs

pub returns-clause-runs : goal.returns-clause-runs
returns-clause-runs c =
    let all = c.args.records.now in
    let past : length all ≤ c.loop-fields.fields-index = omega arith in
    let whole : take c.loop-fields.fields-index all ≡ all = take_all c.loop-fields.fields-index all past in
    subst (λ (some : List Row). AreRun (insertions c.args.text.now c.args.count (map fields_of some)) c.args.connection.now c.loop-fields.connection) whole c.loop-fields.invariant

pub returns-in_err-insert_row-clause-fails : goal.returns-in_err-insert_row-clause-fails
returns-in_err-insert_row-clause-fails c =
    let text = c.args.text.now in
    let count = c.args.count in
    let records = c.args.records.now in
    let old = c.args.connection.now in
    let error = c.in_err-insert_row.field-0.0 in
    handed (λ (found : Error). is_memory found ≡ false → AreCut (insertions text count (map fields_of records)) old found) c.from_residual.result error c.from_residual.ensures.1
    (λ sound. cut-more text count records c.loop-fields.fields-index c.fields-item.result old c.loop-fields.connection error (omega arith) c.fields-item.is c.loop-fields.invariant (c.in_err-insert_row.ensures.fails sound))
