use Rattle.std.proofs.Common.{◌≡◌, ◌∙◌, ◌++◌, ◌∷◌, [], ℕ, List, ap, subst, arith, rules}
use Rattle.std.specs.Prelude.{IfErr}
use Rattle.std.proofs.lemmas.List.{take_all}
use Rattle.ruled_sql.specs.Answers.{IsFaultOfRow}
use Rattle.csv.specs.Records.{fields_of}
use Rattle.ruled_sql.proofs.Answering.{taken}
use Rattle.ruled_sql.proofs.rows.header_of.Goals as goal

pub loop-name-preserved : goal.loop-name-preserved
loop-name-preserved c =
    let text = c.as_slice.result.now in
    let name : text ≡ c.name-item.result = search rules in
    let old = fields_of c.loop-name.texts in
    let pushed : fields_of c.push_field.new.self ≡ old ++ text ∷ [] = c.in_ok-push_field.ensures.fields ∙ ap (λ (p : List ℕ). old ++ ((p ++ text) ∷ [])) c.loop-name.invariant.partial in
    record {
      fields = taken c.args.names.now c.loop-name.name-index c.name-item.result text old (fields_of c.push_field.new.self) (omega arith) c.name-item.is pushed name c.loop-name.invariant.fields;
      partial = c.in_ok-push_field.ensures.partial;
    }

pub returns-clause-fault : goal.returns-clause-fault
returns-clause-fault c =
    let names = c.args.names.now in
    let whole : fields_of c.loop-name.texts ≡ names = c.loop-name.invariant.fields ∙ take_all c.loop-name.name-index names (omega arith) in
    subst (λ (texts : List (List ℕ)). IfErr c.row_of.result (IsFaultOfRow 0 texts)) whole c.row_of.ensures.fault
