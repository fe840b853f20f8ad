use Rattle.std.proofs.Common.{◌≡◌, ◌∙◌, ◌++◌, ◌∷◌, [], ℕ, List, length, map, ap, subst, arith, rules}
use Rattle.std.specs.Prelude.{IfErr, IfOk}
use Rattle.std.proofs.lemmas.List.{take_all}
use Rattle.csv.specs.Records.{Row as Fields, fields_of}
use Rattle.sqlite_value.specs.Value.{owned}
use Rattle.ruled_database.specs.Tables.{shown_text}
use Rattle.ruled_sql.specs.Answers.{IsFaultOfRow}
use Rattle.ruled_sql.proofs.Answering.{texts-lack, value_more}
use Rattle.ruled_sql.proofs.rows.fields_in.Goals as goal

pub loop-at-preserved : goal.loop-at-preserved
loop-at-preserved c =
    let found = rw c.unwrap-value.ensures at c.get_ref.ensures.ok in
    let value = owned c.unwrap-value.result in
    let old = fields_of c.loop-at.texts in
    let null : c.as_bytes.result.now ≡ c.args.null.now = search rules in
    let pushed : fields_of c.push_value.new.texts ≡ old ++ shown_text c.args.null.now value ∷ [] =
    c.in_ok-push_value.ensures.fields ∙ ap (λ (p : List ℕ). old ++ ((p ++ shown_text c.as_bytes.result.now value) ∷ [])) c.loop-at.invariant.partial
    ∙ ap (λ (word : List ℕ). old ++ shown_text word value ∷ []) null in
    record {
      fields = value_more c.args.null.now c.args.values.now c.loop-at.at value old (fields_of c.push_value.new.texts) found.0 found.1 pushed c.loop-at.invariant.fields;
      partial = c.in_ok-push_value.ensures.partial;
    }

pub returns-clause-fields : goal.returns-clause-fields
returns-clause-fields c =
    let values = c.args.values.now in
    let all : c.loop-at.at ≡ length values = omega (arith, c.loop-at-test.false, c.loop-at.auto.at-end, c.column_count-at-end.ensures) in
    let whole : fields_of c.loop-at.texts ≡ map (shown_text c.args.null.now) values = c.loop-at.invariant.fields ∙ ap (map (shown_text c.args.null.now)) (take_all c.loop-at.at values (omega (arith, all))) in
    subst (λ (texts : List (List ℕ)). IfOk c.row_of.result (λ (fields : Fields). fields_of fields ≡ texts)) whole c.row_of.ensures.fields

pub returns-clause-fault : goal.returns-clause-fault
returns-clause-fault c =
    let values = c.args.values.now in
    let all : c.loop-at.at ≡ length values = omega (arith, c.loop-at-test.false, c.loop-at.auto.at-end, c.column_count-at-end.ensures) in
    let whole : fields_of c.loop-at.texts ≡ map (shown_text c.args.null.now) values = c.loop-at.invariant.fields ∙ ap (map (shown_text c.args.null.now)) (take_all c.loop-at.at values (omega (arith, all))) in
    texts-lack c.args.row c.args.null.now c.utf8.null values c.row_of.result
    (subst (λ (texts : List (List ℕ)). IfErr c.row_of.result (IsFaultOfRow c.args.row texts)) whole c.row_of.ensures.fault)
