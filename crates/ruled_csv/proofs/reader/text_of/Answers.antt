use Rattle.std.proofs.Common.{◌≡◌, ◌∙◌, ℕ, Option, Some, sym, ap, subst}
use Rattle.std.specs.Prelude.{IfNone, IfSome}
use Rattle.csv.specs.Records.{AllText, Row, fields_of}
use Rattle.ruled_csv.specs.Faults.{has_length}
use Rattle.ruled_csv.specs.declared.fault.RowsFault.TheVariants.{Encoding}
use Rattle.ruled_csv.proofs.TextFaults.{row_right, row_wrong}
use Rattle.ruled_csv.proofs.reader.text_of.Goals as goal

pub returns-in-Some-clause-same : goal.returns-in-Some-clause-same
returns-in-Some-clause-same c =
    subst (λ (found : Option Row). IfSome found (λ (row : Row). fields_of row ≡ fields_of c.args.fields.now)) c.in-Some.is c.in_ok-text.ensures.same

pub returns-in-Some-clause-fault : goal.returns-in-Some-clause-fault
returns-in-Some-clause-fault c = λ number at.
    let long = ap (has_length c.args.dialect c.args.columns) (sym c.len-count.ensures.count) ∙ sym c.has_length.ensures ∙ c.if-not-has_length.false in
    let texts : AllText (fields_of c.in-Some.text) = subst (λ (found : Option Row). IfSome found (λ (row : Row). AllText (fields_of row))) c.in-Some.is c.in_ok-text.ensures.text in
    row_right c.args.dialect c.args.columns number (fields_of c.args.fields.now) long (subst AllText (returns-in-Some-clause-same c) texts)

pub returns-in-None-clause-fault : goal.returns-in-None-clause-fault
returns-in-None-clause-fault c = λ number at some.
    let long = ap (has_length c.args.dialect c.args.columns) (sym c.len-count.ensures.count) ∙ sym c.has_length.ensures ∙ c.if-not-has_length.false in
    let none : ¬ (AllText (fields_of c.args.fields.now)) = subst (λ (found : Option Row). IfNone found (¬ (AllText (fields_of c.args.fields.now)))) c.in-None.is c.in_ok-text.ensures.none in
    row_wrong c.args.dialect c.args.columns number (fields_of c.args.fields.now) long none ∙ ap (λ (n : ℕ). Some (Encoding n 0)) (sym at)
