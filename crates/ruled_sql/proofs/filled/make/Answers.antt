use Rattle.std.proofs.Common.{◌≡◌, ◌+◌, ◌-◌, ◌∙◌, ℕ, [], List, drop, false, inl, inr, length, map, refl, subst, take, arith}
use Rattle.std.specs.Prelude.{OnOk}
use Rattle.std.proofs.lemmas.Result.{IfErr-weaker}
use Rattle.csv.specs.Records.{fields_of}
use Rattle.sqlite.specs.declared.error.Error.{Error}
use Rattle.ruled_sql.specs.Answers.{is_memory}
use Rattle.ruled_sql.specs.Filled.{AreCut, AreRun, IsRun, IsStuck, Step, create_text, fillings, steps}
use Rattle.ruled_sql.proofs.Filling.{made-runs, table-steps}
use Rattle.ruled_sql.proofs.Answering.{handed}
use Rattle.ruled_sql.proofs.filled.make.Goals as goal

pub returns-in_err-run-clause-fails : goal.returns-in_err-run-clause-fails
returns-in_err-run-clause-fails c =
    let name = c.args.name.now in
    let rows = c.args.rows.now in
    let old = c.args.connection.now in
    let error = c.in_err-run.field-0.0 in
    let n = length rows - 1 in
    let whole : n + 1 ≡ length rows = omega (arith, c.in-len1-up.len_at_least) in
    let same = table-steps name rows c.names-item.result n whole c.names-item.is c.as_str.result.now (length (fields_of c.names-item.result)) (c.as_str.ensures.value ∙ c.in_ok-columns.ensures) refl in
    let create : c.as_str-2.result.now ≡ create_text name c.as_str.result.now = c.as_str-2.ensures.value ∙ c.in_ok-creation.ensures in
    handed (λ (found : Error). is_memory found ≡ false → AreCut (steps name (map fields_of rows)) old found) c.from_residual-in_err-run.result error c.from_residual-in_err-run.ensures.1
    (λ sound. subst (λ (all : List Step). AreCut all old error) same (inl (subst (λ (text : List ℕ). IsStuck (text, []) old error) create c.in_err-run.ensures.fails)))

pub returns-clause-runs : goal.returns-clause-runs
returns-clause-runs c =
    let name = c.args.name.now in
    let rows = c.args.rows.now in
    let old = c.args.connection.now in
    let mid = c.run.new.connection in
    let new = c.fill.new.connection in
    let n = length rows - 1 in
    let whole : n + 1 ≡ length rows = omega (arith, c.in-len1-up.len_at_least) in
    let same = table-steps name rows c.names-item.result n whole c.names-item.is c.as_str.result.now c.len.result (c.as_str.ensures.value ∙ c.in_ok-columns.ensures) c.len.ensures in
    let create : c.as_str-2.result.now ≡ create_text name c.as_str.result.now = c.as_str-2.ensures.value ∙ c.in_ok-creation.ensures in
    subst (λ (all : List Step). OnOk c.fill.result (AreRun all old new)) same
    (made-runs c.fill.result (create_text name c.as_str.result.now, []) (fillings name c.len.result (map fields_of (take n (drop 1 rows)))) old mid new
    (subst (λ (text : List ℕ). IsRun (text, []) old mid) create c.in_ok-run.ensures.runs) c.fill.ensures.runs)

pub returns-clause-fails : goal.returns-clause-fails
returns-clause-fails c =
    let name = c.args.name.now in
    let rows = c.args.rows.now in
    let old = c.args.connection.now in
    let mid = c.run.new.connection in
    let n = length rows - 1 in
    let whole : n + 1 ≡ length rows = omega (arith, c.in-len1-up.len_at_least) in
    let same = table-steps name rows c.names-item.result n whole c.names-item.is c.as_str.result.now c.len.result (c.as_str.ensures.value ∙ c.in_ok-columns.ensures) c.len.ensures in
    let create : c.as_str-2.result.now ≡ create_text name c.as_str.result.now = c.as_str-2.ensures.value ∙ c.in_ok-creation.ensures in
    let others = fillings name c.len.result (map fields_of (take n (drop 1 rows))) in
    IfErr-weaker c.fill.result (λ (error : Error). is_memory error ≡ false → AreCut others mid error) (λ (error : Error). is_memory error ≡ false → AreCut (steps name (map fields_of rows)) old error)
    (λ (error : Error) cut sound. subst (λ (all : List Step). AreCut all old error) same
    (inr (mid, subst (λ (text : List ℕ). IsRun (text, []) old mid) create c.in_ok-run.ensures.runs, cut sound)))
    c.fill.ensures.fails
