use Rattle.std.proofs.Common.{◌∙◌, [], refl, arith}
use Rattle.ruled_sql.specs.Answers.{LacksText, shown_rows}
use Rattle.ruled_sql.proofs.Answering.{row-at, row_more, handed, row-lacks}
use Rattle.ruled_sql.proofs.rows.rows_in.Goals as goal

pub loop-values-preserved : goal.loop-values-preserved
loop-values-preserved c =
    rw c.in_ok-push-2.ensures.items (
    row_more c.args.null.now c.args.names.now c.args.answer.now c.loop-values.values-index c.values-item.result c.loop-values.rows.items c.in_ok-fields.fields (omega arith) c.values-item.is c.in_ok-fields.ensures.fields
    c.loop-values.invariant
    )

pub returns-in_err-header-clause-fault : goal.returns-in_err-header-clause-fault
returns-in_err-header-clause-fault c =
    let rows = shown_rows [] c.args.names.now c.args.answer.now in
    let fault = c.in_err-header.field-0.0 in
    handed (LacksText rows) c.from_residual.result fault c.from_residual.ensures.1 (row-lacks rows 0 c.args.names.now refl fault c.in_err-header.ensures.fault)

pub returns-in_err-fields-clause-fault : goal.returns-in_err-fields-clause-fault
returns-in_err-fields-clause-fault c =
    let names = c.args.names.now in
    let answer = c.args.answer.now in
    let rows = shown_rows [] names answer in
    let fault = c.in_err-fields.field-0.0 in
    handed (LacksText rows) c.from_residual-in_err-fields.result fault c.from_residual-in_err-fields.ensures.1
    (row-lacks rows c.len.result _ (row-at c.args.null.now [] names answer c.loop-values.values-index c.values-item.result c.loop-values.rows.items c.len.result (omega arith) c.values-item.is c.loop-values.invariant (c.len.ensures ∙ c.loop-values.rows.ok.0)) fault c.in_err-fields.ensures.fault)
