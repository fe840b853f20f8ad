use Rattle.std.proofs.Common.{ℕ, List, None, Some, Option, subst}
use Rattle.ruled_sql.specs.Answers.{LacksRows}
use Rattle.ruled_io.specs.Input.{LacksAnswer, LacksAnswerOf}
use Rattle.ruled_io.specs.declared.formats.Known.{Known}
use Rattle.ruled_io.specs.declared.request.Selection.TheVariants.{Query as Select}
use Rattle.ruled_io.proofs.Causes.{of_query}
use Rattle.ruled_io.proofs.database.answer_rows.Goals as goal

pub returns-in_err-query_rows-in-None-clause-cause : goal.returns-in_err-query_rows-in-None-clause-cause
returns-in_err-query_rows-in-None-clause-cause c =
    let query = c.args.query.now in
    let bytes = c.args.bytes.now in
    let found = c.in_err-query_rows-in-None.field-0.0 in
    let lacks : LacksAnswer (Some (Select query)) bytes found =
    subst (λ (it : Option Known). LacksAnswerOf it query bytes found) c.in-None.ensures
    (subst (λ (text : List ℕ). LacksRows bytes text query.steps found) c.as_str-text.ensures.value c.in_err-query_rows-in-None.ensures.fault) in
    of_query None (Some (Select query)) bytes found c.from_residual.result lacks c.from_residual.ensures.1
