use Rattle.std.proofs.Common.{◌∙◌, List, ℕ, refl, sym, ap, subst}
use Rattle.std.proofs.lemmas.Result.{on_ok_weaker}
use Rattle.csv.specs.Records.{fields_of, partial_of}
use Rattle.ruled_csv.specs.Inside.{Hand, Joins, calm_lines, hand_cut, hand_of, state_of}
use Rattle.ruled_csv.specs.declared.lines.Lines.{Lines}
use Rattle.ruled_csv.proofs.KeptTexts.{bare-joins, bare-state, quoted-joins, quoted-state}
use Rattle.ruled_csv.proofs.scanner.Scanner.join_run.Goals as goal

pub returns-then-is_quoted-clause-hand : goal.returns-then-is_quoted-clause-hand
returns-then-is_quoted-clause-hand c =
    let old = c.args.self.now in
    let run = c.args.run.now in
    let hand = hand_of old in
    let quoted = quoted-state old.standing (sym c.is_quoted.ensures ∙ c.if-is_quoted.true) in
    let joined = quoted-joins old.dialect run hand c.requires.calm c.requires.some quoted in
    let row = c.push_bytes.new.self in
    on_ok_weaker c.push_bytes.result
    (λ field.
    let joins = subst (λ (xs : List ℕ). Joins old.dialect run hand (record hand { field = xs; lines = calm_lines old.lines })) (sym field) joined in
    let whole = subst (λ (front : List (List ℕ)). Joins old.dialect run hand (record hand { fields = front; field = partial_of row; lines = calm_lines old.lines })) (sym c.push_bytes.ensures.fields) joins in
    subst (λ (lines : Lines). Joins old.dialect run hand (record hand { fields = fields_of row; field = partial_of row; lines = lines })) (sym c.behind_text-self.ensures) whole)
    c.push_bytes.ensures.partial

pub returns-else-is_quoted-clause-hand : goal.returns-else-is_quoted-clause-hand
returns-else-is_quoted-clause-hand c =
    let old = c.args.self.now in
    let run = c.args.run.now in
    let hand = hand_of old in
    let bare = bare-state (state_of old.standing) (sym c.is_quoted.ensures ∙ c.if-is_quoted.false) c.requires.open in
    let joined = bare-joins old.dialect run hand old.standing c.requires.calm c.requires.some refl bare in
    on_ok_weaker c.cut_run.result
    (λ is.
    let after = ap (λ (lines : Lines). hand_cut old.dialect (record hand { lines = lines }) run) (sym c.behind_text-self.ensures) ∙ sym is in
    subst (λ (h : Hand). Joins old.dialect run hand h) after joined)
    c.cut_run.ensures.hand
