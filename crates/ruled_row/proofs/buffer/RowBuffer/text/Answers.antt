use Rattle.std.proofs.Common.{◌≡◌, ◌∙◌, List, ℕ, sym, ap, subst, subst₂}
use Rattle.std.specs.Prelude.{IsUtf8}
use Rattle.std.specs.Str.{IsAscii}
use Rattle.std.proofs.lemmas.Str.{IsUtf8-from_ascii}
use Rattle.csv.specs.Records.{AllText, Row, fields_of}
use Rattle.ruled_row.specs.Cuts.{AreCuts}
use Rattle.ruled_row.specs.Rows.{ended_of}
use Rattle.ruled_row.proofs.RowFacts.{all_cut, ascii_cuts, cuts_of, text_whole}
use Rattle.ruled_row.proofs.buffer.RowBuffer.text.Goals as goal

pub from_utf8_unchecked-requires : goal.from_utf8_unchecked-requires
from_utf8_unchecked-requires c = IsUtf8-from_ascii c.ended-bytes.result.now c.if-is_ascii.ensures.cases

pub returns-then-is_ascii-clause-fields : goal.returns-then-is_ascii-clause-fields
returns-then-is_ascii-clause-fields c =
    let row = ended_of c.args.self.now in
    let whole = c.ended-bytes.ensures.whole in
    let ascii : IsAscii row.bytes = subst (λ (b : List ℕ). IsAscii b) c.ended-bytes.ensures.bytes c.if-is_ascii.ensures.cases in
    subst AllText c.ended-bytes.ensures.fields (all_cut row whole (IsUtf8-from_ascii row.bytes ascii) (ascii_cuts row whole ascii))

pub returns-then-are_cuts-clause-fields : goal.returns-then-are_cuts-clause-fields
returns-then-are_cuts-clause-fields c =
    let row = ended_of c.args.self.now in
    let same : c.in-Ok.text.now ≡ row.bytes = c.in-Ok.ensures.cases.0 ∙ c.ended-bytes.ensures.bytes in
    let text : IsUtf8 row.bytes = subst (λ (b : List ℕ). IsUtf8 b) c.ended-bytes.ensures.bytes c.in-Ok.ensures.cases.1 in
    let ends = c.deref.ensures.value ∙ ap (λ (own : Row). own.ends) c.self.view_is in
    let cuts : AreCuts row.bytes row.ends = subst₂ (λ (b : List ℕ) (e : List ℕ). AreCuts b e) same ends (c.are_cuts.ensures.cuts c.if-are_cuts.true) in
    subst AllText c.ended-bytes.ensures.fields (all_cut row c.ended-bytes.ensures.whole text cuts)

pub returns-else-are_cuts-clause-none : goal.returns-else-are_cuts-clause-none
returns-else-are_cuts-clause-none c = λ texts.
    let row = ended_of c.args.self.now in
    let same : c.in-Ok.text.now ≡ row.bytes = c.in-Ok.ensures.cases.0 ∙ c.ended-bytes.ensures.bytes in
    let ends = c.deref.ensures.value ∙ ap (λ (own : Row). own.ends) c.self.view_is in
    let own : AllText (fields_of row) = subst AllText (sym c.ended-bytes.ensures.fields) texts in
    c.are_cuts.ensures.not c.if-are_cuts.false (subst₂ (λ (b : List ℕ) (e : List ℕ). AreCuts b e) (sym same) (sym ends) (cuts_of row c.ended-bytes.ensures.whole own))

pub returns-in-Err-clause-none : goal.returns-in-Err-clause-none
returns-in-Err-clause-none c = λ texts.
    let row = ended_of c.args.self.now in
    let own : AllText (fields_of row) = subst AllText (sym c.ended-bytes.ensures.fields) texts in
    c.in-Err.ensures.cases.0 (subst (λ (b : List ℕ). IsUtf8 b) (sym c.ended-bytes.ensures.bytes) (text_whole row c.ended-bytes.ensures.whole own))
