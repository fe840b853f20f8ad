use Rattle.std.proofs.Common.{◌≡◌, ◌∙◌, false, ap, subst, rules}
use Rattle.std.specs.Prelude.{OnOk}
use Rattle.std.proofs.lemmas.Result.{IfErr-weaker}
use Rattle.csv.specs.Records.{fields_of}
use Rattle.sqlite_value.specs.Order.{Row}
use Rattle.sqlite.specs.Values.{bound}
use Rattle.sqlite.specs.declared.error.Error.{Error}
use Rattle.ruled_sql.specs.Answers.{is_memory}
use Rattle.ruled_sql.specs.Filled.{IsRun, IsStuck, values_of}
use Rattle.ruled_sql.proofs.Answering.{lost}
use Rattle.ruled_sql.proofs.filled.insert_row.Goals as goal

pub returns-in_err-values-clause-fails : goal.returns-in_err-values-clause-fails
returns-in_err-values-clause-fails c =
    lost (IsStuck (c.args.text.now, values_of c.args.count (fields_of c.args.fields.now)) c.args.connection.now) c.from_residual.result c.from_residual.ensures.1

pub returns-clause-runs : goal.returns-clause-runs
returns-clause-runs c =
    let items : c.deref.result.now ≡ c.in_ok-values.values.items = search rules in
    let same : bound c.deref.result.now ≡ values_of c.args.count (fields_of c.args.fields.now) = ap bound items ∙ c.in_ok-values.ensures in
    subst (λ (row : Row). OnOk c.run.result (IsRun (c.args.text.now, row) c.args.connection.now c.run.new.connection)) same c.run.ensures.runs

pub returns-clause-fails : goal.returns-clause-fails
returns-clause-fails c =
    let items : c.deref.result.now ≡ c.in_ok-values.values.items = search rules in
    let same : bound c.deref.result.now ≡ values_of c.args.count (fields_of c.args.fields.now) = ap bound items ∙ c.in_ok-values.ensures in
    IfErr-weaker c.run.result (IsStuck (c.args.text.now, bound c.deref.result.now) c.args.connection.now) (λ (error : Error). is_memory error ≡ false → IsStuck (c.args.text.now, values_of c.args.count (fields_of c.args.fields.now)) c.args.connection.now error)
    (λ (error : Error) stuck sound. subst (λ (row : Row). IsStuck (c.args.text.now, row) c.args.connection.now error) same stuck)
    c.run.ensures.fails
