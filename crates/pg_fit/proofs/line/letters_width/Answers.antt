use Rattle.std.proofs.Common.{◌≡◌, ◌≤◌, ◌∷◌, ◌&&◌, [], Some, None, length, chars, cond, map-id, sym, ap, ◌∙◌, arith, true, false}
use Rattle.std.specs.List.{list_all, sum_by}
use Rattle.std.proofs.lemmas.Bool.Decides.{nat_tests}
use Rattle.std.proofs.lemmas.Iterator.{YieldsList-from_chars}
use Rattle.std.proofs.lemmas.Iterator.Consumers.{YieldsList-end, YieldsList-turn}
use Rattle.std.proofs.lemmas.List.Folds.{list_all-append}
use Rattle.std.proofs.lemmas.List.Sums.{sum_by-append, sum_by-cons}
use Rattle.std.proofs.lemmas.Str.{encodes-chars, length-le-encodes}
use Rattle.pg_layout.specs.Text.{Text, text_width_of}
use Rattle.pg_layout.proofs.TextLines.{text_width_of-plain}
use Rattle.pg_fit.specs.Controls.{is_letter, is_printable, letter_columns}
use Rattle.pg_fit.proofs.LawsOfControls.{letters-fit, printable_texts_are_letters, printable_texts_are_plain}
use Rattle.pg_fit.proofs.LawsOfTexts.{fails-at, letters-text_width}
use Rattle.pg_fit.proofs.line.letters_width.Goals as goal

pub returns-then-is_printable : goal.returns-then-is_printable
returns-then-is_printable c =
    let text : Text = c.args.text.now in
    let printable : list_all is_printable text ≡ true = ap (list_all is_printable) (sym c.as_bytes.ensures.value) ∙ sym c.is_printable.ensures ∙ c.if-is_printable.true in
    ap (λ n. Some n) (sym (text_width_of-plain text (printable_texts_are_plain text printable))) ∙ sym (ap (λ v. cond v (Some (text_width_of text)) None) (printable_texts_are_letters text printable))

pub loop-c-preserved : goal.loop-c-preserved
loop-c-preserved c =
    let before = c.loop-c.yielded in
    let x = c.in-Some.c in
    let columns : c.letter_columns-columns.result ≡ letter_columns x = c.letter_columns-columns.ensures in
    let here : is_letter x ≡ true = let some = c.if-columns-eq0.false in grind (arith, nat_tests) in
    record {
      letters = list_all-append is_letter before (x ∷ []) ∙ ap (λ v. v && list_all is_letter (x ∷ [])) c.loop-c.invariant.letters ∙ ap (λ v. v && true) here;
      width = omega (arith, c.saturating_add-width.ensures, c.loop-c.invariant.width, columns, sum_by-append letter_columns before (x ∷ []), sum_by-cons letter_columns x []);
    }

pub returns-then-columns-eq0 : goal.returns-then-columns-eq0
returns-then-columns-eq0 c =
    let text : Text = c.args.text.now in
    let turn = YieldsList-turn (YieldsList-from_chars text c.utf8.text cc) c.loop-c.yielded _ c.loop-c.yielded_by _ _ c.in-Some.c c.in-Some.is c.next.ensures.steps in
    let none : is_letter c.in-Some.c ≡ false = let columns = c.letter_columns-columns.ensures in let zero = c.if-columns-eq0.true in grind (arith, nat_tests) in
    let some : list_all is_letter (chars text) ≡ false = fails-at is_letter (chars text) (length c.loop-c.yielded) c.in-Some.c turn.0 turn.1 none in
    sym (ap (λ v. cond v (Some (text_width_of text)) None) some)

pub returns : goal.returns
returns c =
    let text : Text = c.args.text.now in
    let end = YieldsList-end (YieldsList-from_chars text c.utf8.text cc) c.loop-c.yielded _ c.loop-c.yielded_by _ _ c.in-None.is c.next.ensures.steps in
    let all : c.loop-c.yielded ≡ chars text = sym (map-id c.loop-c.yielded) ∙ end.0 in
    let letters : list_all is_letter (chars text) ≡ true = ap (list_all is_letter) (sym all) ∙ c.loop-c.invariant.letters in
    let few : length (chars text) ≤ length text = omega (arith, length-le-encodes (chars text), ap length (encodes-chars text c.utf8.text)) in
    let width : c.loop-c.width ≡ text_width_of text = omega (arith, c.loop-c.invariant.width, ap (sum_by letter_columns) all, letters-text_width text c.utf8.text letters, letters-fit (chars text), few) in
    ap (λ n. Some n) width ∙ sym (ap (λ v. cond v (Some (text_width_of text)) None) letters)
