use Rattle.std.proofs.Common.{◌≡◌, Option, refl, subst}
use Rattle.std.specs.Prelude.{IfNone, IfSome}
use Rattle.csv.specs.Records.{AllText, Row, fields_of}
use Rattle.ruled_database.proofs.value.row_of.Goals as goal

pub returns-in-Some-clause-fields : goal.returns-in-Some-clause-fields
returns-in-Some-clause-fields c =
    subst (λ (found : Option Row). IfSome found (λ (row : Row). fields_of row ≡ fields_of c.args.texts.now)) c.in-Some.is c.in_ok-fields.ensures.same

pub returns-in-Some-clause-text : goal.returns-in-Some-clause-text
returns-in-Some-clause-text c =
    let same = subst (λ (found : Option Row). IfSome found (λ (row : Row). fields_of row ≡ fields_of c.args.texts.now)) c.in-Some.is c.in_ok-fields.ensures.same in
    subst AllText same (subst (λ (found : Option Row). IfSome found (λ (row : Row). AllText (fields_of row))) c.in-Some.is c.in_ok-fields.ensures.text)

pub returns-in-None-clause-fault : goal.returns-in-None-clause-fault
returns-in-None-clause-fault c =
    (refl, subst (λ (found : Option Row). IfNone found (¬ (AllText (fields_of c.args.texts.now)))) c.in-None.is c.in_ok-fields.ensures.none)
