use Rattle.std.proofs.Common.{◌≡◌, ◌∙◌, ◌∷◌, [], ℕ, List, false, inl, map, subst}
use Rattle.std.specs.Prelude.{IfErr, OnOk}
use Rattle.std.proofs.lemmas.Result.{IfErr-weaker}
use Rattle.csv.specs.Records.{fields_of}
use Rattle.sqlite.specs.declared.error.Error.{Error}
use Rattle.ruled_sql.specs.Answers.{is_memory}
use Rattle.ruled_sql.specs.Filled.{AreCut, AreRun, IsRun, IsStuck, fillings, insert_text, insertions, settle_text}
use Rattle.ruled_sql.proofs.Filling.{cut-behind, cut-front, settled}
use Rattle.ruled_sql.proofs.Answering.{handed, lost}
use Rattle.ruled_sql.proofs.filled.fill.Goals as goal

pub returns-clause-runs : goal.returns-clause-runs
returns-clause-runs c =
    let table = c.args.table.now in
    let count = c.args.count in
    let records = map fields_of c.args.records.now in
    let old = c.args.connection.now in
    let mid = c.insert_rows.new.connection in
    let new = c.run.new.connection in
    let insert : c.as_str.result.now ≡ insert_text table count = c.as_str.ensures.value ∙ c.in_ok-insertion.ensures in
    let settle : c.as_str-2.result.now ≡ settle_text table = c.as_str-2.ensures.value ∙ c.in_ok-settling.ensures in
    settled c.run.result (insertions (insert_text table count) count records) (settle_text table, []) old mid new
    (subst (λ (text : List ℕ). AreRun (insertions text count records) old mid) insert c.in_ok-insert_rows.ensures.runs)
    (subst (λ (text : List ℕ). OnOk c.run.result (IsRun (text, []) mid new)) settle c.run.ensures.runs)

pub returns-clause-fails : goal.returns-clause-fails
returns-clause-fails c =
    let table = c.args.table.now in
    let count = c.args.count in
    let records = map fields_of c.args.records.now in
    let old = c.args.connection.now in
    let mid = c.insert_rows.new.connection in
    let insert : c.as_str.result.now ≡ insert_text table count = c.as_str.ensures.value ∙ c.in_ok-insertion.ensures in
    let settle : c.as_str-2.result.now ≡ settle_text table = c.as_str-2.ensures.value ∙ c.in_ok-settling.ensures in
    let rows = insertions (insert_text table count) count records in
    let runs = subst (λ (text : List ℕ). AreRun (insertions text count records) old mid) insert c.in_ok-insert_rows.ensures.runs in
    IfErr-weaker c.run.result (IsStuck (settle_text table, []) mid) (λ (error : Error). is_memory error ≡ false → AreCut (fillings table count records) old error)
    (λ (error : Error) stuck sound. cut-behind rows ((settle_text table, []) ∷ []) old mid error runs (inl stuck))
    (subst (λ (text : List ℕ). IfErr c.run.result (IsStuck (text, []) mid)) settle c.run.ensures.fails)

pub returns-in_err-insertion-clause-fails : goal.returns-in_err-insertion-clause-fails
returns-in_err-insertion-clause-fails c = lost (AreCut (fillings c.args.table.now c.args.count (map fields_of c.args.records.now)) c.args.connection.now) c.from_residual.result c.from_residual.ensures.1

pub returns-in_err-settling-clause-fails : goal.returns-in_err-settling-clause-fails
returns-in_err-settling-clause-fails c =
    lost (AreCut (fillings c.args.table.now c.args.count (map fields_of c.args.records.now)) c.args.connection.now) c.from_residual-in_err-settling.result c.from_residual-in_err-settling.ensures.1

pub returns-in_err-insert_rows-clause-fails : goal.returns-in_err-insert_rows-clause-fails
returns-in_err-insert_rows-clause-fails c =
    let table = c.args.table.now in
    let count = c.args.count in
    let records = map fields_of c.args.records.now in
    let old = c.args.connection.now in
    let error = c.in_err-insert_rows.field-0.0 in
    let insert : c.as_str.result.now ≡ insert_text table count = c.as_str.ensures.value ∙ c.in_ok-insertion.ensures in
    handed (λ (found : Error). is_memory found ≡ false → AreCut (fillings table count records) old found) c.from_residual-in_err-insert_rows.result error c.from_residual-in_err-insert_rows.ensures.1
    (λ sound. cut-front (insertions (insert_text table count) count records) ((settle_text table, []) ∷ []) old error
    (subst (λ (text : List ℕ). AreCut (insertions text count records) old error) insert (c.in_err-insert_rows.ensures.fails sound)))
